mod Sets
mod Tabs
mod Lengths
mod Order
