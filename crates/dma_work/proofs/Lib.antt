-- Lemmas on beginnings of lists, on boards, on the log's step, on the rule of what is published, on the start of a list,
-- on what calls keep of a desk, on rotations, on the turns of workers and on those of a rota.
pub mod Beginnings
pub mod Boards
pub mod LogSteps
pub mod PublishedRule
pub mod FirstBoards
pub mod Desks
pub mod ItemsOfLists
pub mod Rotations
pub mod Turns
pub mod InTurns
pub mod StatusLaws
