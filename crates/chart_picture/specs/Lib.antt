pub mod DatesPicture
pub mod Printed
pub mod Arrows
pub mod Bars
pub mod Frame
pub mod Picture
pub mod Truth
