use Rattle.std.proofs.Common.{ℕ, ap, ◌∙◌, ◌++◌, ◌∷◌, [], encode_utf8, sym, take}
use Rattle.std.proofs.lemmas.List.{take_more}
use Rattle.std.proofs.lemmas.List.Elements.{All-append, All-cons, All-nil}
use Rattle.tv_cells.specs.Glyph.{shown_char}
use Rattle.tv_io.proofs.PenLemmas.{Puts-then, flat_map-take_more}
use Rattle.tv_terminal.specs.Notes.{IsShowable, shown_bytes}
use Rattle.tv_terminal.proofs.note.put_shown.Goals as goal

abbrev Fits : ℕ → Type 0
Fits ch = IsShowable (shown_char ch)

pub loop-ch-preserved : goal.loop-ch-preserved
loop-ch-preserved g c =
    let text = c.args.text.now in
    let at = c.loop-ch.ch-index in
    let is = c.shown.ensures.is in
    let more = flat_map-take_more (λ ch. encode_utf8 (shown_char ch)) text at c.ch-item.result c.loop-ch-test.true
    ∙ ap (λ ch. shown_bytes (take at text) ++ encode_utf8 (shown_char ch)) (sym c.ch-item.is)
    ∙ ap (λ ch. shown_bytes (take at text) ++ encode_utf8 ch) (sym is) in
    let taken = take_more text at c.ch-item.result c.loop-ch-test.true ∙ ap (λ ch. take at text ++ ch ∷ []) (sym c.ch-item.is) in (
      rw more (Puts-then c.loop-ch.invariant.0 c.put_char.ensures),
      rw taken (All-append Fits (take at text) (c.ch-item.result ∷ []) c.loop-ch.invariant.1 (All-cons Fits c.ch-item.result [] (rw is at c.shown.ensures.showable) (All-nil Fits))),
    )
