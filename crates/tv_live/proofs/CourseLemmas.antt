-- What a program's run keeps.
use Rattle.std.proofs.Common.{◌≡◌, Bool, false, List, [], ◌∷◌, ◌++◌, map, refl, sym, ap, subst, ◌∙◌, append_assoc}
use Rattle.std.proofs.lemmas.List.{append-nil}
use Rattle.std.proofs.lemmas.List.Concat.{flat_map-append}
use Rattle.tv_event.specs.declared.event.Event.{Event as Happening}
use Rattle.tv_live.specs.Course.{Begins, Cause, Does, IsAsked, IsCourse, IsTold, Makes, Moment, Promise, StepsTo, Turns, causes_after, causes_of, symbols_in_all}
use Rattle.tv_live.specs.declared.program.News.TheVariants.{Event}
use Rattle.tv_machine.specs.Run.{Session, stepped}
use Rattle.tv_machine.specs.Session.Left.{is_left}
use Rattle.tv_play.specs.Edge.{brought}
use Rattle.tv_play.specs.declared.ends.Step.{Step}
use Rattle.tv_play.specs.declared.ends.Step.TheVariants as steps
use Rattle.tv_terminal.specs.Decoding.{Listening, Symbol, between, decode_after, left_after}
use Rattle.tv_terminal.proofs.DecodeLemmas.{left_after-append}

-- ---- the description stays

desc-steps : {P : Type 0} (makes : Promise P) (before now : Moment P) (step : Step) → StepsTo makes before step now → now.session.desc ≡ before.session.desc
desc-steps makes before now steps.Leave m = absurd m
desc-steps makes before now steps.Refresh m = ap (λ (s : Session). s.desc) m.session
desc-steps makes before now (steps.Perform event) m = m.desc

desc-makes : {P : Type 0} (makes : Promise P) (before now : Moment P) (cause : Cause) → Makes makes before cause now → now.session.desc ≡ before.session.desc
desc-makes makes before now Begins m = absurd m
desc-makes makes before now (Does action) m = desc-steps makes before now m.0 m.2
desc-makes makes before now Turns m = m.desc

pub desc-of : {P : Type 0} (makes : Promise P) (program : P) (s : Session) (now : Moment P) (earlier : List (Moment P)) → IsCourse makes program s now earlier → now.session.desc ≡ s.desc
desc-of makes program s now [] c = c.asked.desc
desc-of makes program s now (before ∷ earlier) c = desc-makes makes before now now.cause c.0.comes ∙ desc-of makes program s before earlier c.1

-- ---- what the program was told

pub told-by : {P : Type 0} {makes : Promise P} (before now : Moment P) (told event : Happening) (left : Bool) → event ≡ brought before.session.desc told → left ≡ is_left before.session.desc before.session.state event
    → IsAsked makes (Event event left) before.program (stepped before.session event) now → IsTold makes before (brought before.session.desc told) now
told-by {makes = makes} before now told event left same is asked =
    subst (λ e. IsTold makes before e now) same (subst (λ b. IsAsked makes (Event event b) before.program (stepped before.session event) now) is asked)

-- ---- one piece more

causes-after-more : (l : Listening) (pieces : List (List Symbol)) (piece : List Symbol)
    → causes_after l (pieces ++ piece ∷ []) ≡ causes_after l pieces ++ (map Does (decode_after (left_after l (symbols_in_all pieces)) piece) ++ Turns ∷ [])
causes-after-more l [] piece = refl
causes-after-more l (first ∷ pieces) piece =
    let rest = map Does (decode_after (left_after (left_after l first) (symbols_in_all pieces)) piece) ++ Turns ∷ [] in
    ap (λ x. map Does (decode_after l first) ++ Turns ∷ x) (causes-after-more (left_after l first) pieces piece)
    ∙ sym (append_assoc (map Does (decode_after l first)) (Turns ∷ causes_after (left_after l first) pieces) rest)
    ∙ ap (λ k. causes_after l (first ∷ pieces) ++ (map Does (decode_after k piece) ++ Turns ∷ [])) (sym (left_after-append l first (symbols_in_all pieces)))

pub causes-more : (pieces : List (List Symbol)) (piece : List Symbol)
    → causes_of (pieces ++ piece ∷ []) ≡ causes_of pieces ++ (map Does (decode_after (left_after (between false) (symbols_in_all pieces)) piece) ++ Turns ∷ [])
causes-more pieces piece = ap (λ x. Begins ∷ x) (causes-after-more (between false) pieces piece)

pub turn-more : (pieces : List (List Symbol)) (piece : List Symbol) (l : Listening) → l ≡ left_after (between false) (symbols_in_all pieces)
    → causes_of pieces ++ (map Does (decode_after l piece) ++ Turns ∷ []) ≡ causes_of (pieces ++ piece ∷ [])
turn-more pieces piece l is = ap (λ k. causes_of pieces ++ (map Does (decode_after k piece) ++ Turns ∷ [])) is ∙ sym (causes-more pieces piece)

pub symbols-more : (pieces : List (List Symbol)) (piece : List Symbol) → symbols_in_all (pieces ++ piece ∷ []) ≡ symbols_in_all pieces ++ piece
symbols-more pieces piece = flat_map-append (λ (x : List Symbol). x) pieces (piece ∷ []) ∙ ap (λ x. symbols_in_all pieces ++ x) (append-nil piece)

pub left-more-of : (pieces : List (List Symbol)) (piece : List Symbol) (l later : Listening) → l ≡ left_after (between false) (symbols_in_all pieces) → later ≡ left_after l piece → later ≡ left_after (between false) (symbols_in_all (pieces ++ piece ∷ []))
left-more-of pieces piece l later is by =
    by
    ∙ ap (λ k. left_after k piece) is
    ∙ sym (left_after-append (between false) (symbols_in_all pieces) piece)
    ∙ ap (left_after (between false)) (sym (symbols-more pieces piece))
