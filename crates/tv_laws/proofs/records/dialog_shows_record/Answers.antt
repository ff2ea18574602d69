use Rattle.tv_laws.proofs.RecordLaws.ShowLemmas.{fields-opened}
use Rattle.tv_laws.proofs.records.dialog_shows_record.Goals as goal

pub returns : goal.returns
returns c = record { shows = fields-opened c.args._dialog.now c.requires.sound }
