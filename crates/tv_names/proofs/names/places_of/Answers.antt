use Rattle.std.proofs.Common.{◌<◌, Some, None, cond, length, sym, ap, ◌∙◌, arith, bytes_eq}
use Rattle.std.specs.Option.{option_or}
use Rattle.tv_names.specs.Named.{place_in}
use Rattle.tv_names.proofs.FirstPlaceLemmas.{option_or_none, place_more}
use Rattle.tv_names.proofs.names.places_of.Goals as goal
use Rattle.tv_names.proofs.names.places_of.Goals.{in-Some+in_ok-note_place, in_default}

pub loop-i-preserved : goal.loop-i-preserved
loop-i-preserved c = λ name.
    let views = c.args.views.now in
    let i = c.loop-i.i in
    let view = c.index-views-i.result in
    let less : i < length views = omega arith in
    elim c.match-name.branch [
      | in-Some+in_ok-note_place w ↦
          let own = w.as_slice.result.now in
          ap (λ places. place_in places name) w.places-is ∙ w.in_ok-note_place.ensures name ∙ ap (λ place. option_or place (cond (bytes_eq own name) (Some i) None)) (c.loop-i.invariant name)
          ∙ sym (place_more views i view name (Some own) less c.index-views-i.is (sym w.in-Some.ensures ∙ ap Some (sym w.as_slice.ensures)))
      | in_default w ↦
          ap (λ places. place_in places name) w.places-is ∙ c.loop-i.invariant name ∙ sym (option_or_none _)
          ∙ sym (place_more views i view name None less c.index-views-i.is (sym w.in_default.ensures))
    ]
