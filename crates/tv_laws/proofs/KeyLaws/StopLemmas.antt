-- The stops around the focus: the free ones, as they come one after the other.
use Rattle.std.proofs.Common.{◌≡◌, true, false, cond, ◌+◌, List, [], ◌∷◌, ◌++◌, map, filter, find, length, reverse, take, drop, Some, option_map, unwrap_or, refl, sym, ap, subst, ◌∙◌, All, append_assoc, arith}
use Rattle.std.specs.Prelude.{nat_lt}
use Rattle.std.specs.List.{position_or_len}
use Rattle.std.proofs.Math.Seq.{drop-append-add, take-append_seam}
use Rattle.std.proofs.lemmas.Bool.Decides.{nat_tests}
use Rattle.std.proofs.lemmas.List.{length-append, map-append, reverse-append}
use Rattle.std.proofs.lemmas.List.Elements.{All-cons, All-head, All-nil, All-push, All-tail, filter-append}
use Rattle.tv_model.specs.declared.node.Id.{Id}
use Rattle.tv_machine.specs.Dialog.Focus.{Stop, first_free, next_free, others, stop_place, previous_free}
use Rattle.tv_laws.specs.Order.{free_among}
use Rattle.tv_machine.proofs.ListLemmas.{AreApart, bool_cases, has, id-itself, id-swap, others-fail, same-id}

abbrev pub stop_id : Stop → Id
stop_id stop = stop.id

abbrev free_stops : List Stop → List Stop
free_stops stops = filter (λ stop. stop.is_free) stops

-- the first one, or another where there is none
abbrev pub first : List Id → Id → Id
first [] other = other
first (i ∷ ids) other = i

-- ---- lists

pub all-right : (P : Id → Type 0) (xs ys : List Id) → All P (xs ++ ys) → All P ys
all-right P [] ys all = all
all-right P (x ∷ xs) ys all = all-right P xs ys (All-tail P x (xs ++ ys) all)

pub all-reverse : (P : Id → Type 0) (xs : List Id) → All P xs → All P (reverse xs)
all-reverse P [] all = All-nil P
all-reverse P (x ∷ xs) all =
    subst (All P) (sym (reverse-append (x ∷ []) xs)) (All-push P (reverse xs) x (all-reverse P xs (All-tail P x xs all)) (All-head P x xs all))

pub first-all : (P : Id → Type 0) (before after : List Id) (i : Id) → All P (before ++ i ∷ after) → P (first (after ++ before) i)
first-all P before (x ∷ after) i all = All-head P x after (All-tail P i (x ∷ after) (all-right P before (i ∷ x ∷ after) all))
first-all P (x ∷ before) [] i all = All-head P x (before ++ i ∷ []) all
first-all P [] [] i all = All-head P i [] all

pub reverse-middle : (before after : List Id) (i : Id) → reverse (before ++ i ∷ after) ≡ reverse after ++ i ∷ reverse before
reverse-middle before after i =
    reverse-append before (i ∷ after) ∙ ap (λ ids. ids ++ reverse before) (reverse-append (i ∷ []) after) ∙ append_assoc (reverse after) (i ∷ []) (reverse before)

-- ---- the free ones

among-free : (stop : Stop) (stops : List Stop) → stop.is_free ≡ true → free_among (stop ∷ stops) ≡ stop.id ∷ free_among stops
among-free stop stops is = ap (λ b. map (λ s. s.id) (cond b (stop ∷ free_stops stops) (free_stops stops))) is

among-passed : (stop : Stop) (stops : List Stop) → stop.is_free ≡ false → free_among (stop ∷ stops) ≡ free_among stops
among-passed stop stops is = ap (λ b. map (λ s. s.id) (cond b (stop ∷ free_stops stops) (free_stops stops))) is

among-append : (xs ys : List Stop) → free_among (xs ++ ys) ≡ free_among xs ++ free_among ys
among-append xs ys = ap (map stop_id) (filter-append (λ stop. stop.is_free) xs ys) ∙ map-append stop_id (free_stops xs) (free_stops ys)

one-reversed : (stop : Stop) → reverse (free_among (stop ∷ [])) ≡ free_among (stop ∷ [])
one-reversed stop =
    bool_cases stop.is_free (λ b. reverse (map stop_id (cond b (stop ∷ []) [])) ≡ map stop_id (cond b (stop ∷ []) [])) (λ is. refl) (λ is. refl)

among-reverse : (stops : List Stop) → free_among (reverse stops) ≡ reverse (free_among stops)
among-reverse [] = refl
among-reverse (stop ∷ stops) =
    ap free_among (reverse-append (stop ∷ []) stops) ∙ among-append (reverse stops) (stop ∷ [])
    ∙ ap (λ ids. ids ++ free_among (stop ∷ [])) (among-reverse stops)
    ∙ ap (λ ids. reverse (free_among stops) ++ ids) (sym (one-reversed stop))
    ∙ sym (reverse-append (free_among (stop ∷ [])) (free_among stops)) ∙ ap reverse (sym (among-append (stop ∷ []) stops))

-- the first free one is the first of them
first-free : (stops : List Stop) (other : Id) → unwrap_or (first_free stops) other ≡ first (free_among stops) other
first-free [] other = refl
first-free (stop ∷ stops) other =
    bool_cases stop.is_free
    (λ b. unwrap_or (option_map (λ s. s.id) (cond b (Some stop) (find (λ s. s.is_free) stops))) other
    ≡ first (map (λ s. s.id) (cond b (stop ∷ free_stops stops) (free_stops stops))) other)
    (λ is. refl) (λ is. first-free stops other)

-- ---- a free one among them

-- it stands among the free ones
abbrev pub StandsFree : List Stop → Id → Type 0
StandsFree stops i = (before : List Id) × (after : List Id) × (free_among stops ≡ before ++ i ∷ after)

stands-later : (stop : Stop) (stops : List Stop) (i : Id) → StandsFree stops i → StandsFree (stop ∷ stops) i
stands-later stop stops i r =
    bool_cases stop.is_free (λ b. StandsFree (stop ∷ stops) i) (λ is. (stop.id ∷ r.0, r.1, among-free stop stops is ∙ ap (λ ids. stop.id ∷ ids) r.2))
    (λ is. (r.0, r.1, among-passed stop stops is ∙ r.2))

pub found-stands : (stops : List Stop) (i : Id) (s : Stop) → find (has stop_id i) stops ≡ Some s → s.is_free ≡ true → StandsFree stops i
found-stands [] i s e is = absurd cc
found-stands (stop ∷ stops) i s e is =
    bool_cases (has stop_id i stop) (λ b. cond b (Some stop) (find (has stop_id i) stops) ≡ Some s → StandsFree (stop ∷ stops) i)
    (λ here found. let same : stop ≡ s = cc in
    ([], free_among stops, among-free stop stops (ap (λ x. x.is_free) same ∙ is) ∙ ap (λ id. id ∷ free_among stops) (same-id stop.id i here)))
    (λ there found. stands-later stop stops i (found-stands stops i s found is)) e

-- ---- the stops before it and those after it

abbrev Parts : List Stop → Id → List Id → List Id → Type 0
Parts stops i before after =
    (front : List Stop) × (stop : Stop) × (back : List Stop) × (stops ≡ front ++ stop ∷ back) × (stop.id ≡ i) × (free_among front ≡ before)
    × (free_among back ≡ after)

parts-more : (stop : Stop) (stops : List Stop) (i x : Id) (before after : List Id) → stop.is_free ≡ true → stop.id ≡ x
    → Parts stops i before after → Parts (stop ∷ stops) i (x ∷ before) after
parts-more stop stops i x before after is here r =
    (stop ∷ r.0, r.1, r.2, ap (λ xs. stop ∷ xs) r.3, r.4, among-free stop r.0 is ∙ ap (λ ids. stop.id ∷ ids) r.5 ∙ ap (λ id. id ∷ before) here, r.6)

parts-free : (stop : Stop) (stops : List Stop) (i : Id) → stop.is_free ≡ true
    → ((before after : List Id) → free_among stops ≡ before ++ i ∷ after → Parts stops i before after)
    → (before after : List Id) → stop.id ∷ free_among stops ≡ before ++ i ∷ after → Parts (stop ∷ stops) i before after
parts-free stop stops i is rest [] after e =
    let here : stop.id ≡ i = cc in
    let back : free_among stops ≡ after = cc in ([], stop, stops, refl, here, refl, back)
parts-free stop stops i is rest (x ∷ before) after e =
    let here : stop.id ≡ x = cc in
    let later : free_among stops ≡ before ++ i ∷ after = cc in parts-more stop stops i x before after is here (rest before after later)

nowhere : (before after : List Id) (i : Id) → [] ≡ before ++ i ∷ after → ⊥
nowhere [] after i e = cc
nowhere (x ∷ before) after i e = cc

parts : (stops : List Stop) (i : Id) (before after : List Id) → free_among stops ≡ before ++ i ∷ after → Parts stops i before after
parts [] i before after e = absurd (nowhere before after i e)
parts (stop ∷ stops) i before after e =
    bool_cases stop.is_free (λ b. Parts (stop ∷ stops) i before after)
    (λ is. parts-free stop stops i is (parts stops i) before after (sym (among-free stop stops is) ∙ e))
    (λ is. let r = parts stops i before after (sym (among-passed stop stops is) ∙ e) in
    (stop ∷ r.0, r.1, r.2, ap (λ xs. stop ∷ xs) r.3, r.4, among-passed stop r.0 is ∙ r.5, r.6))

stop-fails : (stop : Stop) (front back : List Stop) (i : Id) → All (λ s. has stop_id i s ≡ false) (front ++ stop ∷ back) → has stop_id i stop ≡ false
stop-fails stop [] back i all = All-head (λ s. has stop_id i s ≡ false) stop back all
stop-fails stop (s ∷ front) back i all = stop-fails stop front back i (All-tail (λ x. has stop_id i x ≡ false) s (front ++ stop ∷ back) all)

front-fails : (front : List Stop) (stop : Stop) (back : List Stop) → AreApart (map stop_id (front ++ stop ∷ back))
    → All (λ s. has stop_id stop.id s ≡ false) front
front-fails [] stop back apart = All-nil (λ s. has stop_id stop.id s ≡ false)
front-fails (s ∷ front) stop back apart =
    All-cons (λ x. has stop_id stop.id x ≡ false) s front
    (id-swap s.id stop.id ∙ stop-fails stop front back s.id (others-fail stop_id (front ++ stop ∷ back) s.id apart.0))
    (front-fails front stop back apart.1)

place-after : (front : List Stop) (stop : Stop) (back : List Stop) → All (λ s. has stop_id stop.id s ≡ false) front
    → position_or_len (has stop_id stop.id) (front ++ stop ∷ back) ≡ length front
place-after [] stop back all = rw (id-itself stop.id) refl
place-after (s ∷ front) stop back all =
    rw (All-head (λ x. has stop_id stop.id x ≡ false) s front all)
    (omega (arith, place-after front stop back (All-tail (λ x. has stop_id stop.id x ≡ false) s front all)))

place-is : (front : List Stop) (stop : Stop) (back : List Stop) → AreApart (map stop_id (front ++ stop ∷ back))
    → stop_place (front ++ stop ∷ back) stop.id ≡ length front
place-is front stop back apart =
    let within : nat_lt (length front) (length (front ++ stop ∷ back)) ≡ true = grind (arith, nat_tests, length-append) in
    rw (place-after front stop back (front-fails front stop back apart), within) refl

others-are : (front : List Stop) (stop : Stop) (back : List Stop) → AreApart (map stop_id (front ++ stop ∷ back))
    → others (front ++ stop ∷ back) stop.id ≡ back ++ front
others-are front stop back apart =
    ap (λ n. drop (n + 1) (front ++ stop ∷ back) ++ take n (front ++ stop ∷ back)) (place-is front stop back apart)
    ∙ ap (λ xs. xs ++ take (length front) (front ++ stop ∷ back)) (drop-append-add front (stop ∷ back) 1)
    ∙ ap (λ xs. back ++ xs) (take-append_seam front (stop ∷ back))

-- ---- the next one and the previous one

module _ (stops : List Stop) (i : Id) (before after : List Id) (apart : AreApart (map stop_id stops)) (e : free_among stops ≡ before ++ i ∷ after) where
  others-free : free_among (others stops i) ≡ after ++ before
  others-free =
      let p = parts stops i before after e in
      let there : AreApart (map stop_id (p.0 ++ p.1 ∷ p.2)) = subst (λ xs. AreApart (map stop_id xs)) p.3 apart in
      ap (λ xs. free_among (others xs i)) p.3 ∙ ap (λ id. free_among (others (p.0 ++ p.1 ∷ p.2) id)) (sym p.4)
      ∙ ap free_among (others-are p.0 p.1 p.2 there) ∙ among-append p.2 p.0
      ∙ ap (λ ids. ids ++ free_among p.0) p.6 ∙ ap (λ ids. after ++ ids) p.5

  pub next-first : next_free stops i ≡ first (after ++ before) i
  next-first = first-free (others stops i) i ∙ ap (λ ids. first ids i) others-free

  pub previous-first : previous_free stops i ≡ first (reverse (after ++ before)) i
  previous-first = first-free (reverse (others stops i)) i ∙ ap (λ ids. first ids i) (among-reverse (others stops i) ∙ ap reverse others-free)
