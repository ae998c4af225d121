pub mod SizeSum
pub mod ItemLengths
pub mod RunLengths
pub mod FileLength
