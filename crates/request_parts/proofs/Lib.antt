mod Parts
mod LineKept
