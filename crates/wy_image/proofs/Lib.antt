mod Examples
pub mod FileFronts
pub mod Written
pub mod Ranges
pub mod ReferenceForms
pub mod CaptureForms
pub mod ArgumentForms
pub mod ConstantForms
pub mod InstructionForms
pub mod PrimitiveForms
pub mod OperatorForms
