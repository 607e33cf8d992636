-- docs/RULES.md as definitions: a module for each group of rules, in reading order. A comment cites the rules that the definitions below it render,
-- up to the next comment. Module Lists holds words on lists that no rule names.
-- Not here: theorems about the definitions (crate `laws`), and code.
pub mod Verdict
pub mod Lists
pub mod Edition
pub mod Shape
pub mod Expr
pub mod Instr
pub mod ProgramFile
pub mod Machine
pub mod Rows
pub mod Sets
pub mod Build
pub mod SetFile
pub mod Room
pub mod Operations
pub mod Text
pub mod Lines
pub mod Bench
