use Rattle.std.proofs.Common.{◌≡◌, ◌∙◌, sym}
use Rattle.tv_program.proofs.FillLemmas.{cut-FillsTo, taken-FillsTo, unsound-FillsTo}
use Rattle.tv_program.proofs.filling.fill_text.Goals as goal

pub returns-in_err-read_sound : goal.returns-in_err-read_sound
returns-in_err-read_sound g c can =
    unsound-FillsTo c.args.log.name.now c.args.desc c.args.log.text.now c.in_ok-read.read c.in_ok-read.ensures.read
    c.in_ok-full.full c.in_ok-full.ensures.filled _ c.in_ok-printed.ensures.text (c.in_ok-printed.ensures.spelled (c.in_ok-full.ensures.spelled c.in_ok-read.ensures.spelled can))
    c.as_bytes.result.now c.as_bytes.ensures.value
    (record { out = g.W.Writer.seen c.args.out.now; told = g.E.Writer.seen c.args.told.now })
    c.in_err-read_sound.field-0.0 c.in_err-read_sound.ensures.fault
    c.from_residual-in_err-read_sound.result c.from_residual-in_err-read_sound.ensures.1

pub returns-in_err-write_all : goal.returns-in_err-write_all
returns-in_err-write_all g c can =
    let first : c.as_bytes-2.result.now ≡ c.as_bytes.result.now = c.as_bytes-2.ensures.value ∙ sym c.as_bytes.ensures.value in
    cut-FillsTo c.args.log.name.now c.args.desc c.args.log.text.now c.in_ok-read.read c.in_ok-read.ensures.read
    c.in_ok-full.full c.in_ok-full.ensures.filled _ c.in_ok-printed.ensures.text (c.in_ok-printed.ensures.spelled (c.in_ok-full.ensures.spelled c.in_ok-read.ensures.spelled can))
    c.as_bytes-2.result.now c.as_bytes-2.ensures.value
    (record { out = g.W.Writer.seen c.args.out.now; told = g.E.Writer.seen c.args.told.now })
    (record { out = g.W.Writer.seen c.write_all.new.out; told = g.E.Writer.seen c.tell_misfits.new.told })
    c.in_ok-read_sound.field-0 (rw first c.in_ok-read_sound.ensures.sound) c.as_slice.result.now c.as_slice.ensures c.tell_misfits.ensures
    c.in_err-write_all.ensures c.from_residual-in_err-write_all.result c.from_residual-in_err-write_all.ensures.1

pub returns : goal.returns
returns g c can =
    let first : c.as_bytes-2.result.now ≡ c.as_bytes.result.now = c.as_bytes-2.ensures.value ∙ sym c.as_bytes.ensures.value in
    taken-FillsTo c.args.log.name.now c.args.desc c.args.log.text.now c.in_ok-read.read c.in_ok-read.ensures.read
    c.in_ok-full.full c.in_ok-full.ensures.filled _ c.in_ok-printed.ensures.text (c.in_ok-printed.ensures.spelled (c.in_ok-full.ensures.spelled c.in_ok-read.ensures.spelled can))
    c.as_bytes-2.result.now c.as_bytes-2.ensures.value
    (record { out = g.W.Writer.seen c.args.out.now; told = g.E.Writer.seen c.args.told.now })
    (record { out = g.W.Writer.seen c.write_all.new.out; told = g.E.Writer.seen c.tell_misfits.new.told })
    c.in_ok-read_sound.field-0 (rw first c.in_ok-read_sound.ensures.sound) c.as_slice.result.now c.as_slice.ensures c.tell_misfits.ensures
    c.in_ok-write_all.ensures
