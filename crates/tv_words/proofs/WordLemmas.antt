-- Reading a line gives just the words that its characters spell.
use Rattle.std.proofs.Common.{◌≡◌, ℕ, zero, suc, ◌==◌, Bool, true, false, not, ◌&&◌, ◌||◌, List, [], ◌∷◌, ◌++◌, Some, refl, sym, ap, ◌∙◌, ◌⊎◌, inl, inr, append_assoc}
use Rattle.std.proofs.lemmas.List.{append-nil}
use Rattle.std.proofs.lemmas.Bool.{eqb-true, eqb-false}
use Rattle.std.specs.List.{flat_map, list_all, list_any}
use Rattle.std.specs.Char.{is_control}
use Rattle.tv_words.specs.declared.word.Word.{Word}
use Rattle.tv_words.specs.declared.word.Word.TheVariants.{Bare, Quoted}
use Rattle.tv_words.specs.declared.scan.Mode.{Mode}
use Rattle.tv_words.specs.declared.scan.Mode.TheVariants.{Between, InBare, InQuoted, InEscape, Closed}
use Rattle.tv_words.specs.Words.{escaped, is_bare, Spaced}
use Rattle.tv_words.specs.Reading.Scan.{at, read_on}

-- whether a character is this one
pub is_or_not : (c d : ℕ) → (c ≡ d) ⊎ (c == d ≡ false)
is_or_not c d = elim (c == d) as (λ b. c == d ≡ b → (c ≡ d) ⊎ (c == d ≡ false)) [ true ↦ λ e. inl (eqb-true c d e) | false ↦ λ e. inr e ] refl

-- what the characters after a mode say of the words that are still to come
abbrev Left : Mode → List ℕ → List Word → Type 0
Left Between cs more = Spaced (32 ∷ cs) more
Left (InBare t) cs more = (u : List ℕ) × (rest : List ℕ) × (ws : List Word) × (more ≡ Bare (t ++ u) ∷ ws) × (cs ≡ u ++ rest) × (list_all is_bare u ≡ true) × Spaced rest ws
Left (InQuoted t) cs more = (u : List ℕ) × (rest : List ℕ) × (ws : List Word) × (more ≡ Quoted (t ++ u) ∷ ws) × (cs ≡ flat_map escaped u ++ (34 ∷ rest)) × Spaced rest ws
Left (InEscape t) cs more = (u : List ℕ) × (rest : List ℕ) × (ws : List Word) × (more ≡ Quoted (t ++ u) ∷ ws) × (92 ∷ cs ≡ flat_map escaped u ++ (34 ∷ rest)) × Spaced rest ws
Left Closed cs more = Spaced cs more

-- one space more
space : (cs : List ℕ) (ws : List Word) → Spaced cs ws → Spaced (32 ∷ cs) ws
space cs [] h = (suc h.0, ap (λ x. 32 ∷ x) h.1)
space cs (w ∷ ws) h = (suc h.0, h.1, ap (λ x. 32 ∷ x) h.2, h.3, h.4)

-- ---- what is read is spelled so

abbrev Clean : List ℕ → Type 0
Clean cs = list_any is_control cs ≡ false

pub or_false : (a b : Bool) → (a || b) ≡ false → (a ≡ false) × (b ≡ false)
or_false true b e = absurd cc
or_false false b e = (refl, e)

no_line_end : (c : ℕ) → is_control c ≡ false → c == 10 ≡ false
no_line_end c e = elim (is_or_not c 10) [ inl same ↦ (let clash : is_control 10 ≡ false = rw same at e in absurd cc) | inr other ↦ other ]

-- the words that are read, after those that there were
abbrev Reads : Mode → List ℕ → List Word → List Word → Type 0
Reads m cs ws all = (more : List Word) × (all ≡ ws ++ more) × Left m cs more

module _ (cs : List ℕ) (later : (m : Mode) (ws all : List Word) → read_on (at ws m) cs ≡ Some all → Reads m cs ws all) (ws all : List Word) where
  between_space : read_on (at ws Between) cs ≡ Some all → Reads Between (32 ∷ cs) ws all
  between_space e = let r = later Between ws all e in (r.0, r.1, space (32 ∷ cs) r.0 r.2)

  between_quote : read_on (at ws (InQuoted [])) cs ≡ Some all → Reads Between (34 ∷ cs) ws all
  between_quote e =
      let r = later (InQuoted []) ws all e in
      let l = r.2 in
      (Quoted l.0 ∷ l.2, r.1 ∙ ap (λ x. ws ++ x) l.3, (0, l.1, ap (λ x. 32 ∷ 34 ∷ x) (l.4 ∙ sym (append_assoc (flat_map escaped l.0) (34 ∷ []) l.1)), tt, l.5))

  between_other : (c : ℕ) → c == 32 ≡ false → c == 34 ≡ false → read_on (at ws (InBare (c ∷ []))) cs ≡ Some all → Reads Between (c ∷ cs) ws all
  between_other c a b e =
      let r = later (InBare (c ∷ [])) ws all e in
      let l = r.2 in
      (Bare (c ∷ l.0) ∷ l.2, r.1 ∙ ap (λ x. ws ++ x) l.3, (0, l.1, ap (λ x. 32 ∷ c ∷ x) l.4, (λ none. absurd cc, rw (a, b) l.5), l.6))

  bare_space : (t : List ℕ) → read_on (at (ws ++ Bare t ∷ []) Between) cs ≡ Some all → Reads (InBare t) (32 ∷ cs) ws all
  bare_space t e =
      let r = later Between (ws ++ Bare t ∷ []) all e in
      (Bare t ∷ r.0, r.1 ∙ append_assoc ws (Bare t ∷ []) r.0, ([], 32 ∷ cs, r.0, ap (λ x. Bare x ∷ r.0) (sym (append-nil t)), refl, refl, r.2))

  bare_other : (t : List ℕ) (c : ℕ) → c == 32 ≡ false → c == 34 ≡ false → read_on (at ws (InBare (t ++ c ∷ []))) cs ≡ Some all → Reads (InBare t) (c ∷ cs) ws all
  bare_other t c a b e =
      let r = later (InBare (t ++ c ∷ [])) ws all e in
      let l = r.2 in
      (r.0, r.1, (c ∷ l.0, l.1, l.2, l.3 ∙ ap (λ x. Bare x ∷ l.2) (append_assoc t (c ∷ []) l.0), ap (λ x. c ∷ x) l.4, rw (a, b) l.5, l.6))

  quoted_quote : (t : List ℕ) → read_on (at (ws ++ Quoted t ∷ []) Closed) cs ≡ Some all → Reads (InQuoted t) (34 ∷ cs) ws all
  quoted_quote t e =
      let r = later Closed (ws ++ Quoted t ∷ []) all e in
      (Quoted t ∷ r.0, r.1 ∙ append_assoc ws (Quoted t ∷ []) r.0, ([], cs, r.0, ap (λ x. Quoted x ∷ r.0) (sym (append-nil t)), refl, r.2))

  quoted_other : (t : List ℕ) (c : ℕ) → c == 34 ≡ false → c == 92 ≡ false → c == 10 ≡ false → read_on (at ws (InQuoted (t ++ c ∷ []))) cs ≡ Some all → Reads (InQuoted t) (c ∷ cs) ws all
  quoted_other t c a b n e =
      let r = later (InQuoted (t ++ c ∷ [])) ws all e in
      let l = r.2 in
      (r.0, r.1, (c ∷ l.0, l.1, l.2, l.3 ∙ ap (λ x. Quoted x ∷ l.2) (append_assoc t (c ∷ []) l.0), rw (a, b, n) (ap (λ x. c ∷ x) l.4), l.5))

  -- the two characters stand for the one
  escape : (t : List ℕ) (c meant : ℕ) → escaped meant ≡ 92 ∷ c ∷ [] → read_on (at ws (InQuoted (t ++ meant ∷ []))) cs ≡ Some all → Reads (InEscape t) (c ∷ cs) ws all
  escape t c meant stands e =
      let r = later (InQuoted (t ++ meant ∷ [])) ws all e in
      let l = r.2 in
      (r.0, r.1, (meant ∷ l.0, l.1, l.2, l.3 ∙ ap (λ x. Quoted x ∷ l.2) (append_assoc t (meant ∷ []) l.0), ap (λ x. 92 ∷ c ∷ x) l.4 ∙ ap (λ x. x ++ flat_map escaped l.0 ++ (34 ∷ l.1)) (sym stands), l.5))

  one_more : (m : Mode) (c : ℕ) → is_control c ≡ false → read_on (at ws m) (c ∷ cs) ≡ Some all → Reads m (c ∷ cs) ws all
  one_more Between c k e = elim (is_or_not c 32) [
    | inl same ↦ rw same (between_space (rw same at e))
    | inr a ↦ elim (is_or_not c 34) [
      | inl same ↦ rw same (between_quote (rw same at e))
      | inr b ↦ between_other c a b (rw (a, b) at e)
    ]
  ]
  one_more (InBare t) c k e = elim (is_or_not c 32) [
    | inl same ↦ rw same (bare_space t (rw same at e))
    | inr a ↦ elim (is_or_not c 34) [
      | inl same ↦ (let clash = rw same at e in absurd cc)
      | inr b ↦ bare_other t c a b (rw (a, b) at e)
    ]
  ]
  one_more (InQuoted t) c k e = elim (is_or_not c 34) [
    | inl same ↦ rw same (quoted_quote t (rw same at e))
    | inr a ↦ elim (is_or_not c 92) [
      | inl same ↦ rw same (later (InEscape t) ws all (rw same at e))
      | inr b ↦ quoted_other t c a b (no_line_end c k) (rw (a, b) at e)
    ]
  ]
  one_more (InEscape t) c k e = elim (is_or_not c 34) [
    | inl same ↦ rw same (escape t 34 34 refl (rw same at e))
    | inr a ↦ elim (is_or_not c 92) [
      | inl same ↦ rw same (escape t 92 92 refl (rw same at e))
      | inr b ↦ elim (is_or_not c 110) [
        | inl same ↦ rw same (escape t 110 10 refl (rw same at e))
        | inr d ↦ (let clash = rw (a, b, d) at e in absurd cc)
      ]
    ]
  ]
  one_more Closed c k e = elim (is_or_not c 32) [
    | inl same ↦ rw same (later Between ws all (rw same at e))
    | inr a ↦ (let clash = rw a at e in absurd cc)
  ]

reads : (cs : List ℕ) → Clean cs → (m : Mode) (ws all : List Word) → read_on (at ws m) cs ≡ Some all → Reads m cs ws all
reads [] clean Between ws all e = ([], (let same : ws ≡ all = cc in sym same ∙ sym (append-nil ws)), (1, refl))
reads [] clean (InBare t) ws all e = (Bare t ∷ [], (let same : ws ++ Bare t ∷ [] ≡ all = cc in sym same), ([], [], [], ap (λ x. Bare x ∷ []) (sym (append-nil t)), refl, refl, (0, refl)))
reads [] clean (InQuoted t) ws all e = absurd cc
reads [] clean (InEscape t) ws all e = absurd cc
reads [] clean Closed ws all e = ([], (let same : ws ≡ all = cc in sym same ∙ sym (append-nil ws)), (0, refl))
reads (c ∷ cs) clean m ws all e =
    let both = or_false (is_control c) (list_any is_control cs) clean in
    one_more cs (reads cs both.1) ws all m c both.0 e

-- what is read of a line is spelled so
pub read_spelled : (cs : List ℕ) (ws : List Word) → Clean cs → read_on (at [] Between) cs ≡ Some ws → Spaced (32 ∷ cs) ws
read_spelled cs ws clean e = let r = reads cs clean Between [] ws e in rw r.1 r.2

-- ---- what is spelled so is read

none_before : (xs ys : List ℕ) (y : ℕ) → [] ≡ xs ++ (y ∷ ys) → ⊥
none_before [] ys y e = cc
none_before (x ∷ xs) ys y e = cc

-- what follows a word begins with a space
space_first : (c : ℕ) (cs : List ℕ) (ws : List Word) → Spaced (c ∷ cs) ws → c ≡ 32
space_first c cs [] (zero, e) = absurd cc
space_first c cs [] (suc n, e) = cc
space_first c cs (w ∷ ws) h = cc h.2

no_words : (ws : List Word) → Spaced [] ws → ws ≡ []
no_words [] h = refl
no_words (w ∷ ws) h = absurd (cc h.2)

bare_parts : (p q b : Bool) → (not (p || q) && b) ≡ true → (p ≡ false) × (q ≡ false) × (b ≡ true)
bare_parts true q b e = absurd cc
bare_parts false true b e = absurd cc
bare_parts false false b e = (refl, refl, e)

bare_tests : (c : ℕ) (b : Bool) → (is_bare c && b) ≡ true → (c == 32 ≡ false) × (c == 34 ≡ false) × (b ≡ true)
bare_tests c b e = bare_parts (c == 32) (c == 34) b e

-- how the text between quotes goes on, at its first character
abbrev Between_quotes : ℕ → List ℕ → List ℕ → Type 0
Between_quotes c cs after = (c == 34 ≡ false) × (c == 92 ≡ false) × (cs ≡ after)

abbrev Escape : List ℕ → ℕ → List ℕ → Type 0
Escape cs meant after = (c : ℕ) × (escaped meant ≡ 92 ∷ c ∷ []) × (cs ≡ c ∷ after) × ((c ≡ 34) × (meant ≡ 34) ⊎ ((c ≡ 92) × (meant ≡ 92) ⊎ (c ≡ 110) × (meant ≡ 10)))

stands_as : (c : ℕ) (cs : List ℕ) (x : ℕ) (after : List ℕ) → c ∷ cs ≡ escaped x ++ after → ((c ≡ 92) × Escape cs x after) ⊎ ((c ≡ x) × Between_quotes c cs after)
stands_as c cs x after e = elim (is_or_not x 34) [
  | inl same ↦ (let f = rw same at e in inl ((cc f), (34, rw same refl, (cc f), inl (refl, same))))
  | inr a ↦ elim (is_or_not x 92) [
    | inl same ↦ (let f = rw same at e in inl ((cc f), (92, rw same refl, (cc f), inr (inl (refl, same)))))
    | inr b ↦ elim (is_or_not x 10) [
      | inl same ↦ (let f = rw same at e in inl ((cc f), (110, rw same refl, (cc f), inr (inr (refl, same)))))
      | inr d ↦ (let f = rw (a, b, d) at e in let same : c ≡ x = cc f in inr (same, (rw same a, rw same b, (cc f))))
    ]
  ]
]

module _ (cs : List ℕ) (later : (m : Mode) (ws more : List Word) → Left m cs more → read_on (at ws m) cs ≡ Some (ws ++ more)) (ws : List Word) (c : ℕ) where
  -- the character belongs to the text between quotes, or begins an escape
  in_quotes : (t : List ℕ) (more : List Word) → Left (InQuoted t) (c ∷ cs) more → read_on (at ws (InQuoted t)) (c ∷ cs) ≡ Some (ws ++ more)
  in_quotes t more ([], rest, vs, e, f, sp) =
      let first : c ≡ 34 = cc f in
      let after : cs ≡ rest = cc f in
      rw (first, e, append-nil) (later Closed (ws ++ Quoted t ∷ []) vs (rw after sp) ∙ ap (λ x. Some x) (append_assoc ws (Quoted t ∷ []) vs))
  in_quotes t more (x ∷ u, rest, vs, e, f, sp) = elim (stands_as c cs x (flat_map escaped u ++ (34 ∷ rest)) (f ∙ append_assoc (escaped x) (flat_map escaped u) (34 ∷ rest))) [
    | inl h ↦ (let first : c ≡ 92 = h.0 in rw first (later (InEscape t) ws more (x ∷ u, rest, vs, e, (rw first at f), sp)))
    | inr h ↦ (let same : c ≡ x = h.0 in rw (h.1.0, h.1.1) (later (InQuoted (t ++ c ∷ [])) ws more (u, rest, vs, e ∙ ap (λ y. Quoted y ∷ vs) (ap (λ y. t ++ y ∷ u) (sym same) ∙ sym (append_assoc t (c ∷ []) u)), h.1.2, sp)))
  ]

  meant_by : (t : List ℕ) (more : List Word) (x : ℕ) (u rest : List ℕ) (vs : List Word) → more ≡ Quoted (t ++ x ∷ u) ∷ vs → cs ≡ flat_map escaped u ++ (34 ∷ rest) → Spaced rest vs → read_on (at ws (InQuoted (t ++ x ∷ []))) cs ≡ Some (ws ++ more)
  meant_by t more x u rest vs e f sp = later (InQuoted (t ++ x ∷ [])) ws more (u, rest, vs, e ∙ ap (λ y. Quoted y ∷ vs) (sym (append_assoc t (x ∷ []) u)), f, sp)

  -- b is the backslash before the character
  escaped_by : (b : ℕ) → b == 34 ≡ false → b ≡ 92 → (t : List ℕ) (more : List Word) (u rest : List ℕ) (vs : List Word) → more ≡ Quoted (t ++ u) ∷ vs → b ∷ c ∷ cs ≡ flat_map escaped u ++ (34 ∷ rest) → Spaced rest vs → read_on (at ws (InEscape t)) (c ∷ cs) ≡ Some (ws ++ more)
  escaped_by b other is t more [] rest vs e f sp = absurd (eqb-false b 34 other (cc f))
  escaped_by b other is t more (x ∷ u) rest vs e f sp = elim (stands_as b (c ∷ cs) x (flat_map escaped u ++ (34 ∷ rest)) (f ∙ append_assoc (escaped x) (flat_map escaped u) (34 ∷ rest))) [
    | inl h ↦ (let stands = h.1 in
        let first : c ≡ stands.0 = cc stands.2 in
        let after : cs ≡ flat_map escaped u ++ (34 ∷ rest) = cc stands.2 in
        elim stands.3 [
          | inl is ↦ (let d : c ≡ 34 = first ∙ is.0 in rw d (meant_by t more 34 u rest vs (rw is.1 at e) after sp))
          | inr others ↦ elim others [
            | inl is ↦ (let d : c ≡ 92 = first ∙ is.0 in rw d (meant_by t more 92 u rest vs (rw is.1 at e) after sp))
            | inr is ↦ (let d : c ≡ 110 = first ∙ is.0 in rw d (meant_by t more 10 u rest vs (rw is.1 at e) after sp))
          ]
        ])
    | inr h ↦ absurd (eqb-false b 92 h.1.1 is)
  ]

  in_escape : (t : List ℕ) (more : List Word) → Left (InEscape t) (c ∷ cs) more → read_on (at ws (InEscape t)) (c ∷ cs) ≡ Some (ws ++ more)
  in_escape t more (u, rest, vs, e, f, sp) = escaped_by 92 refl refl t more u rest vs e f sp

  in_bare : (t : List ℕ) (more : List Word) → Left (InBare t) (c ∷ cs) more → read_on (at ws (InBare t)) (c ∷ cs) ≡ Some (ws ++ more)
  in_bare t more ([], rest, vs, e, f, tests, sp) =
      let here : Spaced (c ∷ cs) vs = rw f sp in
      let first : c ≡ 32 = space_first c cs vs here in
      rw (first, e, append-nil) (later Between (ws ++ Bare t ∷ []) vs (rw first at here) ∙ ap (λ x. Some x) (append_assoc ws (Bare t ∷ []) vs))
  in_bare t more (x ∷ u, rest, vs, e, f, tests, sp) =
      let same : c ≡ x = cc f in
      let after : cs ≡ u ++ rest = cc f in
      let are = bare_tests x (list_all is_bare u) tests in
      let a : c == 32 ≡ false = rw same are.0 in
      let b : c == 34 ≡ false = rw same are.1 in
      rw (a, b) (later (InBare (t ++ c ∷ [])) ws more (u, rest, vs, e ∙ ap (λ y. Bare y ∷ vs) (ap (λ y. t ++ y ∷ u) (sym same) ∙ sym (append_assoc t (c ∷ []) u)), after, are.2, sp))

  between : (more : List Word) → Left Between (c ∷ cs) more → read_on (at ws Between) (c ∷ cs) ≡ Some (ws ++ more)
  between [] (zero, e) = absurd (cc e)
  between [] (suc zero, e) = absurd (cc e)
  between [] (suc (suc n), e) =
      let first : c ≡ 32 = cc e in
      rw first (later Between ws [] (suc n, ap (λ x. 32 ∷ x) (cc e)))
  between (Bare [] ∷ vs) (zero, rest, e, is, sp) = absurd (is.0 refl)
  between (Bare (x ∷ xs) ∷ vs) (zero, rest, e, is, sp) =
      let same : c ≡ x = cc e in
      let after : cs ≡ xs ++ rest = cc e in
      let are = bare_tests x (list_all is_bare xs) is.1 in
      let a : c == 32 ≡ false = rw same are.0 in
      let b : c == 34 ≡ false = rw same are.1 in
      rw (a, b) (later (InBare (c ∷ [])) ws (Bare (x ∷ xs) ∷ vs) (xs, rest, vs, ap (λ y. Bare (y ∷ xs) ∷ vs) (sym same), after, are.2, sp))
  between (Quoted q ∷ vs) (zero, rest, e, is, sp) =
      let first : c ≡ 34 = cc e in
      let after : cs ≡ (flat_map escaped q ++ 34 ∷ []) ++ rest = cc e in
      rw first (later (InQuoted []) ws (Quoted q ∷ vs) (q, rest, vs, refl, after ∙ append_assoc (flat_map escaped q) (34 ∷ []) rest, sp))
  between (v ∷ vs) (suc n, rest, e, is, sp) =
      let first : c ≡ 32 = cc e in
      rw first (later Between ws (v ∷ vs) (n, rest, ap (λ x. 32 ∷ x) (cc e), is, sp))

  goes_on : (m : Mode) (more : List Word) → Left m (c ∷ cs) more → read_on (at ws m) (c ∷ cs) ≡ Some (ws ++ more)
  goes_on Between more h = between more h
  goes_on (InBare t) more h = in_bare t more h
  goes_on (InQuoted t) more h = in_quotes t more h
  goes_on (InEscape t) more h = in_escape t more h
  goes_on Closed more h =
      let first : c ≡ 32 = space_first c cs more h in
      rw first (later Between ws more (rw first at h))

ends_between : (more : List Word) → Spaced (32 ∷ []) more → more ≡ []
ends_between [] h = refl
ends_between (Bare [] ∷ vs) (zero, rest, e, is, sp) = absurd (is.0 refl)
ends_between (Bare (x ∷ xs) ∷ vs) (zero, rest, e, is, sp) = absurd (cc e)
ends_between (Quoted q ∷ vs) (zero, rest, e, is, sp) = absurd (cc e)
ends_between (v ∷ vs) (suc n, rest, e, is, sp) = absurd (cc e)

escape_ends : (b : ℕ) → b == 34 ≡ false → b ≡ 92 → (u rest : List ℕ) → b ∷ [] ≡ flat_map escaped u ++ (34 ∷ rest) → ⊥
escape_ends b other is [] rest f = eqb-false b 34 other (cc f)
escape_ends b other is (x ∷ u) rest f = elim (stands_as b [] x (flat_map escaped u ++ (34 ∷ rest)) (f ∙ append_assoc (escaped x) (flat_map escaped u) (34 ∷ rest))) [
  | inl h ↦ cc h.1.2
  | inr h ↦ eqb-false b 92 h.1.1 is
]

bare_ends : (u rest : List ℕ) → [] ≡ u ++ rest → (u ≡ []) × (rest ≡ [])
bare_ends [] rest e = (refl, sym e)
bare_ends (x ∷ u) rest e = absurd (cc e)

again : (cs : List ℕ) (m : Mode) (ws more : List Word) → Left m cs more → read_on (at ws m) cs ≡ Some (ws ++ more)
again [] Between ws more h = rw (ends_between more h, append-nil) refl
again [] (InBare t) ws more h =
    let none = bare_ends h.0 h.1 h.4 in
    let last : h.2 ≡ [] = no_words h.2 (rw none.1 at h.6) in
    rw (h.3, none.0, append-nil, last) refl
again [] (InQuoted t) ws more h = absurd (none_before (flat_map escaped h.0) h.1 34 h.4)
again [] (InEscape t) ws more h = absurd (escape_ends 92 refl refl h.0 h.1 h.4)
again [] Closed ws more h = rw (no_words more h, append-nil) refl
again (c ∷ cs) m ws more h = goes_on cs (again cs) ws c m more h

-- what is spelled so is read
pub spelled_read : (cs : List ℕ) (ws : List Word) → Spaced (32 ∷ cs) ws → read_on (at [] Between) cs ≡ Some ws
spelled_read cs ws h = again cs Between [] ws h
