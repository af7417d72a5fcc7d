pub mod Demands
pub mod WorkedFiles
pub mod Worked
