pub mod GrammarLaws
pub mod Laws
pub mod ChipLaws
pub mod ControlLaws
mod FirstWords
mod Numbers
mod LineLaws
pub mod ProgramLaws
pub mod Fronts
mod Texts
mod OneText
