mod Bits
mod Takes
mod Ends
mod Rows
mod Bytes
