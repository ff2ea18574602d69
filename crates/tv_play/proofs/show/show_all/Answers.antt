use Rattle.std.proofs.Common.{ap, refl, ◌∙◌}
use Rattle.std.specs.Option.{option_or}
use Rattle.tv_play.specs.Notes.{window_of}
use Rattle.tv_play.proofs.MonitorLemmas.{begun-monitor, clipped-monitor, sized-told}
use Rattle.tv_play.proofs.ShownLemmas.{alike-size, same-height, same-width, shown-again, shown-first, size-same}
use Rattle.tv_play.proofs.show.show_all.Goals as goal

pub begin-requires : goal.begin-requires
begin-requires g c = alike-size (c.screen-screen.ensures c.requires.there.0 c.requires.there.1) c.requires.there.2

pub say_clipped-requires : goal.say_clipped-requires
say_clipped-requires g c =
    let there = c.requires.there in
    record {
      there = (
        there.0,
        there.1,
        begun-monitor there.0.desc c.args.monitor.now _ c.screen-screen.result.now c.window_of.result (alike-size (c.screen-screen.ensures there.0 there.1) there.2) c.begin.ensures.size c.begin.ensures.window
            c.window_of.ensures there.2,
      );
    }

pub returns-clause-size : goal.returns-clause-size
returns-clause-size g c = λ t is.
    let there = c.requires.there in
    clipped-monitor t.desc _ c.say_clipped.new.monitor c.say_clipped.ensures
    (begun-monitor t.desc c.args.monitor.now _ c.screen-screen.result.now c.window_of.result (alike-size (c.screen-screen.ensures there.0 there.1) there.2) c.begin.ensures.size c.begin.ensures.window
    c.window_of.ensures is)

pub returns-clause-first : goal.returns-clause-first
returns-clause-first g c = λ s stands going untold unsized.
    let there = c.requires.there in
    let is = c.screen-screen.ensures s stands in
    let none = c.or-size.ensures ∙ ap (λ o. option_or o c.args.monitor.now.size) untold ∙ unsized in
    shown-first s c.find_cursor-cursor.result is c.find_cursor-cursor.ensures (size-same (c.screen-screen.ensures there.0 there.1) is there.2) c.begin.ensures refl none refl
    (c.window_of.ensures s.desc is.width is.height ∙ ap (window_of s.desc) none) c.say_clipped.ensures going

pub returns-clause-again : goal.returns-clause-again
returns-clause-again g c = λ colours s actions action from stands asked told shown.
    let is = c.screen-screen.ensures _ stands in
    let framed = c.window_of.ensures s.desc (is.width ∙ same-width s actions) (is.height ∙ same-height s actions)
    ∙ ap (window_of s.desc) (c.or-size.ensures ∙ sized-told actions action c.args.told c.args.monitor.now.size told shown.told) in
    shown-again s actions action asked c.find_cursor-cursor.result is c.find_cursor-cursor.ensures shown.taken.size shown.same c.begin.ensures framed refl refl c.say_clipped.ensures refl
    (c.or-size.ensures ∙ ap (λ o. option_or o c.args.monitor.now.size) told) from shown
