-- Which rows heads reach, and the numbers that these get.
pub mod Tabled
pub mod Marks
pub mod Numbers
