-- What was heard of the user, one thing more, and how a run ends with it.
use Rattle.std.proofs.Common.{◌≡◌, ℕ, ◌+◌, ◌<◌, ◌≤◌, false, ◌⊎◌, inl, inr, List, [], ◌∷◌, ◌++◌, length, map, take, drop, get_or, Option, Some, None, Result, Ok, Err, sym, ap, ◌∙◌, arith, append_assoc, length-append}
use Rattle.std.proofs.lemmas.Bool.{cases_lt}
use Rattle.std.proofs.lemmas.List.{append-nil, map-append, take-append-drop, take-append-le, take_all, take_more}
use Rattle.std.proofs.lemmas.List.Elements.{All-append, All-from_recursion}
use Rattle.tv_machine.specs.Run.{Session}
use Rattle.tv_play.specs.Ends.{is_finished, is_leaving, reached}
use Rattle.tv_play.specs.Steps.{HasPlayedOut, IsEndedBy, IsHeard, IsPlaying, LeavesWith, Outside}
use Rattle.tv_play.specs.declared.parting.Parting.{Parting}
use Rattle.tv_play.specs.declared.parting.Parting.TheVariants as partings
use Rattle.tv_play.specs.declared.parting.PlayFault.{PlayFault}
use Rattle.tv_play.specs.declared.parting.PlayFault.TheVariants as faults
use Rattle.tv_terminal.specs.Decoding.{Listening, Symbol, Byte, Pause, before, between, decode, decode_after, heard, heard_at_pause, left, left_by}
use Rattle.tv_terminal.specs.declared.action.Action.{Action}
use Rattle.tv_terminal.proofs.DecodeLemmas.{decode-byte, decode-pause, decode_after-append, left-byte, left-pause}

-- ---- one action more

module _ (s : Session) (symbols next : List Symbol) (actions : List Action) (so_far : IsHeard s symbols actions []) (goes : is_finished (reached s actions) ≡ false) where
  goes-more : (a : Action) (k : ℕ) → k < length (actions ++ a ∷ []) → (k < length actions) ⊎ (length actions ≤ k) → is_finished (reached s (take k (actions ++ a ∷ []))) ≡ false
  goes-more a k lt (inl few) =
      let front : take k (actions ++ a ∷ []) ≡ take k actions = take-append-le k actions (a ∷ []) (omega arith) in
      rw front (so_far.goes k few)
  goes-more a k lt (inr all) =
      let last : length actions ≡ k = omega (arith, length-append actions (a ∷ [])) in
      let front : take k (actions ++ a ∷ []) ≡ actions = take-append-le k actions (a ∷ []) (omega arith) ∙ take_all k actions (omega arith) in
      rw front goes

  pub heard-more : (a : Action) → is_leaving s.desc a ≡ false → decode next ≡ decode symbols ++ a ∷ [] → IsHeard s next (actions ++ a ∷ []) []
  heard-more a stays means = record {
    parts = means ∙ ap (λ (x : List Action). x ++ a ∷ []) (so_far.parts ∙ append-nil actions) ∙ sym (append-nil (actions ++ a ∷ []));
    stays = All-append (λ action. is_leaving s.desc action ≡ false) actions (a ∷ []) so_far.stays (All-from_recursion (λ action. is_leaving s.desc action ≡ false) (a ∷ []) (stays, tt));
    goes = λ k lt. goes-more a k lt (cases_lt k (length actions));
  }

  -- the user leaves
  pub heard-last : (action : Action) → decode next ≡ decode symbols ++ action ∷ [] → IsHeard s next actions (action ∷ [])
  heard-last action means = record {
    parts = means ∙ ap (λ (x : List Action). x ++ action ∷ []) (so_far.parts ∙ append-nil actions);
    stays = so_far.stays;
    goes = so_far.goes;
  }

  -- nothing was meant
  pub heard-still : decode next ≡ decode symbols → IsHeard s next actions []
  heard-still means = record { parts = means ∙ so_far.parts; stays = so_far.stays; goes = so_far.goes }

-- ---- more that isn't heard

pub heard-wider : (s : Session) (symbols more : List Symbol) (actions rest : List Action) → IsHeard s symbols actions rest
    → IsHeard s (symbols ++ more) actions (rest ++ decode_after (left symbols) more)
heard-wider s symbols more actions rest so_far = record {
  parts = decode_after-append (between false) symbols more ∙ ap (λ (x : List Action). x ++ decode_after (left symbols) more) so_far.parts ∙ append_assoc actions rest (decode_after (left symbols) more);
  stays = so_far.stays;
  goes = so_far.goes;
}

leaves-wider : (s : Session) (rest more : List Action) → LeavesWith s rest → LeavesWith s (rest ++ more)
leaves-wider s [] more l = absurd l
leaves-wider s (action ∷ rest) more l = l

ended-wider : (s : Session) (actions rest more : List Action) (from now : Outside) (outcome : Result Parting PlayFault) → IsEndedBy s actions rest from now outcome → IsEndedBy s actions (rest ++ more) from now outcome
ended-wider s actions rest more from now (Ok partings.Over) is = is
ended-wider s actions rest more from now (Ok partings.Left) is = (is.0, leaves-wider s rest more is.1, is.2, is.3, is.4)
ended-wider s actions rest more from now (Ok partings.Ended) is = is
ended-wider s actions rest more from now (Err faults.NoMemory) is = is
ended-wider s actions rest more from now (Err faults.Read) is = is
ended-wider s actions rest more from now (Err faults.Log) is = is
ended-wider s actions rest more from now (Err faults.Screen) is = is
ended-wider s actions rest more from now (Err faults.Tape) is = is

pub played-wider : (s : Session) (symbols more : List Symbol) (from now : Outside) (Left : Session → Type 0) (outcome : Result Parting PlayFault) → HasPlayedOut s symbols from now Left outcome → HasPlayedOut s (symbols ++ more) from now Left outcome
played-wider s symbols more from now Left outcome p = record {
  actions = p.actions;
  rest = p.rest ++ decode_after (left symbols) more;
  heard = heard-wider s symbols more p.actions p.rest p.heard;
  shown = p.shown;
  left = p.left;
  taped = p.taped;
  ended = ended-wider s p.actions p.rest (decode_after (left symbols) more) from now outcome p.ended;
}

pub playing-still : (s : Session) (symbols next : List Symbol) (from now : Outside) (Left : Session → Type 0) → decode next ≡ decode symbols → IsPlaying s symbols from now Left → IsPlaying s next from now Left
playing-still s symbols next from now Left means p = record {
  actions = p.actions;
  heard = heard-still s symbols next p.actions p.heard p.goes means;
  goes = p.goes;
  shown = p.shown;
  performs = p.performs;
  taped = p.taped;
  going = p.going;
  whole = p.whole;
}

-- ---- what may be meant

pub meant-none : (symbols next : List Symbol) (action : Option Action) → action ≡ None → decode next ≡ decode symbols ++ before action [] → decode next ≡ decode symbols
meant-none symbols next action is means = means ∙ ap (λ (a : Option Action). decode symbols ++ before a []) is ∙ append-nil (decode symbols)

pub meant-some : (symbols next : List Symbol) (action : Option Action) (a : Action) → action ≡ Some a → decode next ≡ decode symbols ++ before action [] → decode next ≡ decode symbols ++ a ∷ []
meant-some symbols next action a is means = means ∙ ap (λ (x : Option Action). decode symbols ++ before x []) is

pub meant-pause : (symbols : List Symbol) (kept : Listening) (action : Option Action) → kept ≡ left symbols → action ≡ heard_at_pause kept → decode (symbols ++ Pause ∷ []) ≡ decode symbols ++ before action []
meant-pause symbols kept action same is = decode-pause symbols ∙ ap (λ (a : Option Action). decode symbols ++ before a []) (ap heard_at_pause (sym same) ∙ sym is)

pub meant-byte : (symbols : List Symbol) (b : ℕ) (kept : Listening) (action : Option Action) → kept ≡ left symbols → action ≡ heard kept b → decode (symbols ++ Byte b ∷ []) ≡ decode symbols ++ before action []
meant-byte symbols b kept action same is = decode-byte symbols b ∙ ap (λ (a : Option Action). decode symbols ++ before a []) (ap (λ (x : Listening). heard x b) (sym same) ∙ sym is)

pub kept-byte : (symbols : List Symbol) (b : ℕ) (kept later : Listening) → kept ≡ left symbols → later ≡ left_by kept b → later ≡ left (symbols ++ Byte b ∷ [])
kept-byte symbols b kept later same is = is ∙ ap (λ (x : Listening). left_by x b) same ∙ sym (left-byte symbols b)

pub kept-pause : (symbols : List Symbol) (kept later : Listening) → kept ≡ left symbols → later ≡ between kept.is_pasting → later ≡ left (symbols ++ Pause ∷ [])
kept-pause symbols kept later same is = is ∙ ap (λ (x : Listening). between x.is_pasting) same ∙ sym (left-pause symbols)

-- one byte more of a piece
pub bytes-more : (symbols : List Symbol) (bytes : List ℕ) (i : ℕ) → i < length bytes → (symbols ++ map Byte (take i bytes)) ++ Byte (get_or bytes i 0) ∷ [] ≡ symbols ++ map Byte (take (i + 1) bytes)
bytes-more symbols bytes i lt =
    append_assoc symbols (map Byte (take i bytes)) (Byte (get_or bytes i 0) ∷ [])
    ∙ ap (λ (x : List Symbol). symbols ++ x) (sym (ap (map Byte) (take_more bytes i 0 lt) ∙ map-append Byte (take i bytes) (get_or bytes i 0 ∷ [])))

-- all of it
pub bytes-all : (symbols : List Symbol) (bytes : List ℕ) (i : ℕ) → (symbols ++ map Byte (take i bytes)) ++ map Byte (drop i bytes) ≡ symbols ++ map Byte bytes
bytes-all symbols bytes i =
    append_assoc symbols (map Byte (take i bytes)) (map Byte (drop i bytes))
    ∙ ap (λ (x : List Symbol). symbols ++ x) (sym (map-append Byte (take i bytes) (drop i bytes)) ∙ ap (map Byte) (take-append-drop i bytes))
