-- What a dialog of a sound description has. It stands with the flat machine, since a checked description
-- promises it.
pub use Rattle.tv_machine.specs.Dialog.Sound.{IsSoundDialog, ShowsOthers}
