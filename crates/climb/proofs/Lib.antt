mod Order
mod Pass
