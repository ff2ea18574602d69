use Rattle.std.proofs.Common.{refl}
use Rattle.tv_terminal.proofs.NoteLemmas.{notes, puts-note}
use Rattle.tv_terminal.proofs.painter.Painter.note.Goals as goal

pub returns : goal.returns
returns g c =
    notes c.args.row c.args.text.now c.args.self.now _ c.requires.below
    (record { known = refl; window = refl; colours = refl; shown = refl; place = refl; attr = refl; cursor = refl })
    c.requires.small.0 c.requires.small.1 c.put_shown.ensures.showable
    (puts-note c.new-hand.result.place c.args.self.now.place c.args.row c.args.text.now c.new-hand.result.waiting.items _ c.new-hand.ensures.place c.new-hand.ensures.bytes c.go.ensures.bytes
    c.flush.ensures.puts c.put.ensures c.put_shown.ensures.puts c.put-2.ensures)
