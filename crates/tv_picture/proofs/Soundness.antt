-- What the parser has read spells what stands on its stack, character by character.
use Rattle.std.proofs.Common.{suc, zero, inl, inr, ◌≡◌, ◌⊎◌, ◌+◌, ◌-◌, ◌*◌, ◌≤◌, ◌<◌, ℕ, List, [], ◌∷◌, ◌++◌, length, arith, refl, sym, ◌∙◌, ap, subst, append_assoc, append-nil, Bool, true, false, cond, ◌==◌, ◌&&◌, nat_lt, nat_le, get_or}
use Rattle.std.specs.Prelude.{Option, Some, None, codes}
use Rattle.std.specs.Option.{option_and_then}
use Rattle.std.proofs.lemmas.Bool.{eqb-true, eq-eqb}
use Rattle.tv_picture.specs.declared.code.Mark.TheVariants.{Digit, Letter, Capital, Any, NotLower, Literal, Quoted}
use Rattle.tv_picture.specs.declared.code.Op.TheVariants as op
use Rattle.tv_picture.specs.declared.parser.Bracket.{Bracket}
use Rattle.tv_picture.specs.declared.parser.Bracket.TheVariants.{Square, Curly}
use Rattle.tv_picture.specs.declared.parser.Repeat.{Repeat}
use Rattle.tv_picture.specs.declared.parser.Repeat.TheVariants.{Once, Many, Times}
use Rattle.tv_picture.specs.declared.parser.Open.{Open}
use Rattle.tv_picture.specs.Pattern.{Pattern, either, optional, group, IsDigit}
use Rattle.tv_picture.specs.Code.{height_after}
use Rattle.tv_picture.specs.Spelling.{spelled, IsPlain, rank, depth, IsGrammatical, IsPicture}
use Rattle.tv_picture.specs.Parsing.{Built, Reading, part_finished, with_single_mark, is_once, is_same, merged, with_op, bracket_opened, bracket_closed, closed_as, divided, starred, counted_as, quoted_next, plain_step, text_step, text_steps, nothing_parsed, tall}
use Rattle.tv_picture.proofs.Grammar.{state, held, below, is_digit, bracketed, skip, IsNone, unquoted_step}
use Rattle.tv_picture.proofs.Spelled.{IsFine, Spells, Built', line_text, beneath, repeat_text, open_text, before, written, IsLine, IsPart, tall_low, finish_spells, body, pushed, unquoted_text, some_same, is_once_true, mark_step, quoted_step, quote_step, chosen, no_step, star_step, below_true, digit_spells}

-- ---- brackets and commas

abbrev opening : Reading → Bracket → Reading
opening r b = record { built = with_op r.built op.Empty; brackets = (record { bracket = b; repeat = r.repeat; choice = r.choice }) ∷ r.brackets; choice = false; repeat = Once; quoted = false }

open_step : (r s : Reading) (b : Bracket) (c : ℕ) → IsFine r → r.quoted ≡ false → open_text b ≡ c ∷ [] → bracket_opened r b ≡ Some s → Spells s (written r ++ c ∷ [])
open_step r s b c f unquoted text e = chosen (nat_lt (length r.brackets) 8) (Some (opening r b)) None s e
    (λ t e'. some_same (opening r b) s r (written r ++ c ∷ []) e'
    (let few : length r.brackets < 8 = below_true (length r.brackets) 8 t in record {
      fine = record { line = (tt, refl, omega arith); before = (f.line, f.repeat, f.before); repeat = tt; few = omega arith; height = pushed r f None f.height ∙ ap Some (omega arith) };
      spelling = append-nil _ ∙ append-nil _ ∙ append-nil _ ∙ ap (λ x. body r ++ x) text ∙ ap (λ x. x ++ c ∷ []) (sym (unquoted_text r unquoted));
    }))
    (λ _ e'. no_step s e')

-- the alternatives of a line as one pattern
record IsMerged (k : ℕ) (c : Bool) (s : List Pattern) (h : Option ℕ) (t : ℕ) : Type 0 where
  whole : Pattern
  built : merged c (record { stack = s; height = h }) ≡ record { stack = whole ∷ beneath c s; height = Some (t + 1) }
  spelling : line_text c s ≡ spelled whole
  grammatical : IsGrammatical whole
  high : 2 ≤ rank whole
  deep : depth whole + k ≤ 8

merge : (k : ℕ) (c : Bool) (s : List Pattern) (h : Option ℕ) (t : ℕ) → IsLine k c s → h ≡ Some (cond c 2 1 + t) → IsMerged k c s h t
merge k false [] h t l e = absurd l
merge k true [] h t l e = absurd l
merge k true (q ∷ []) h t l e = absurd l
merge k false (q ∷ s) h t l e = let high = l.1 in record {
  whole = q;
  built = ap (λ (x : Option ℕ). Built' (q ∷ s) x) (e ∙ ap Some (omega arith));
  spelling = refl;
  grammatical = l.0;
  high = omega arith;
  deep = l.2;
}
merge k true (q ∷ p ∷ s) h t l e = let shallow = l.2 in let shallow' = l.5 in record {
  whole = either p q;
  built = ap (λ (x : Option ℕ). Built' (either p q ∷ s) (option_and_then (λ j. height_after j op.Either) x)) e
      ∙ ap (λ (x : Option ℕ). Built' (either p q ∷ s) x) (held (nat_lt 1 (2 + t)) (Some (2 + t - 1)) None (below 1 (2 + t) (omega arith)) ∙ ap Some (omega arith));
  spelling = refl;
  grammatical = (l.3, l.0, l.4, l.1);
  high = omega arith;
  deep = omega arith;
}

abbrev rest_tall : List Open → ℕ
rest_tall [] = 0
rest_tall (o ∷ os) = tall o.choice os

tall_parts : (c : Bool) (os : List Open) → tall c os ≡ cond c 2 1 + rest_tall os
tall_parts c [] = omega arith
tall_parts c (o ∷ os) = refl

rest_low : (os : List Open) → rest_tall os ≤ 2 * length os
rest_low [] = omega arith
rest_low (o ∷ os) = let h = tall_low o.choice os in omega arith

abbrev dividing : Reading → Reading
dividing r = record { built = with_op (merged r.choice r.built) op.Empty; brackets = r.brackets; choice = true; repeat = Once; quoted = false }

divided_spells : (r : Reading) → IsFine r → r.quoted ≡ false → r.repeat ≡ Once → Spells (dividing r) (written r ++ 44 ∷ [])
divided_spells r f unquoted once =
    let m = merge (length r.brackets) r.choice r.built.stack r.built.height (rest_tall r.brackets) f.line (f.height ∙ ap Some (tall_parts r.choice r.brackets)) in
    let few = f.few in
    let low = rest_low r.brackets in
    subst (λ b. Spells (record { built = with_op b op.Empty; brackets = r.brackets; choice = true; repeat = Once; quoted = false }) (written r ++ 44 ∷ [])) (sym m.built) (record {
      fine = record {
        line = (tt, refl, omega arith, m.grammatical, m.high, m.deep);
        before = f.before;
        repeat = tt;
        few = f.few;
        height = held (nat_lt (rest_tall r.brackets + 1) 20) (Some (rest_tall r.brackets + 1 + 1)) None (below (rest_tall r.brackets + 1) 20 (omega arith)) ∙ ap Some (let e = tall_parts true r.brackets in omega arith);
      };
      spelling = append-nil _ ∙ append-nil _ ∙ ap (λ x. before r.brackets (beneath r.choice r.built.stack) ++ x) (append-nil _)
          ∙ ap (λ x. before r.brackets (beneath r.choice r.built.stack) ++ (x ++ codes ",")) (sym m.spelling)
          ∙ sym (append_assoc (before r.brackets (beneath r.choice r.built.stack)) (line_text r.choice r.built.stack) (codes ","))
          ∙ ap (λ x. x ++ codes ",") (sym (unquoted_text r unquoted ∙ ap (λ t. (before r.brackets (beneath r.choice r.built.stack) ++ line_text r.choice r.built.stack) ++ repeat_text t) once ∙ append-nil _));
    })

divide_step : (r s : Reading) → IsFine r → r.quoted ≡ false → divided r ≡ Some s → Spells s (written r ++ 44 ∷ [])
divide_step r s f unquoted e = chosen (is_once r.repeat) (Some (dividing r)) None s e
    (λ once e'. some_same (dividing r) s r (written r ++ 44 ∷ []) e' (divided_spells r f unquoted (is_once_true r.repeat once)))
    (λ _ e'. no_step s e')

abbrev close_text : Bracket → List ℕ
close_text Square = codes "]"
close_text Curly = codes "}"

abbrev op_of : Bracket → Built → Built
op_of Square b = with_op b op.Optional
op_of Curly b = with_op b op.Group

bracketed_built : (b : Bracket) (a : Pattern) (s : List Pattern) (t : ℕ) → op_of b (Built' (a ∷ s) (Some (t + 1))) ≡ Built' (bracketed b a ∷ s) (Some (t + 1))
bracketed_built Square a s t = ap (Built' (optional a ∷ s)) (held (nat_lt 0 (t + 1)) (Some (t + 1)) None (below 0 (t + 1) (omega arith)))
bracketed_built Curly a s t = ap (Built' (group a ∷ s)) (held (nat_lt 0 (t + 1)) (Some (t + 1)) None (below 0 (t + 1) (omega arith)))

bracketed_part : (b : Bracket) (a : Pattern) (r : Repeat) → IsGrammatical a → 2 ≤ rank a → IsPart r (bracketed b a)
bracketed_part Square a r g h = ((g, h), refl, inr refl)
bracketed_part Curly a r g h = ((g, h), refl, inr refl)

bracketed_depth : (b : Bracket) (a : Pattern) → depth (bracketed b a) ≡ depth a + 1
bracketed_depth Square a = refl
bracketed_depth Curly a = refl

bracketed_text : (b : Bracket) (a : Pattern) (x : List ℕ) → x ++ spelled (bracketed b a) ≡ ((x ++ open_text b) ++ spelled a) ++ close_text b
bracketed_text Square a x = sym (append_assoc x (codes "[" ++ spelled a) (codes "]")) ∙ ap (λ y. y ++ codes "]") (sym (append_assoc x (codes "[") (spelled a)))
bracketed_text Curly a x = sym (append_assoc x (codes "{" ++ spelled a) (codes "}")) ∙ ap (λ y. y ++ codes "}") (sym (append_assoc x (codes "{") (spelled a)))

abbrev closing : Bracket → Built → List Open → Open → Reading
closing b built os o = part_finished (record { built = op_of b built; brackets = os; choice = o.choice; repeat = o.repeat; quoted = false })

closed_spells : (b : Bracket) (s : List Pattern) (h : Option ℕ) (o : Open) (os : List Open) (c : Bool) → IsFine (state s h (o ∷ os) c Once false) → o.bracket ≡ b → Spells (closing b (merged c (Built' s h)) os o) (written (state s h (o ∷ os) c Once false) ++ close_text b)
closed_spells b s h o os c f same =
    let m = merge (length (o ∷ os)) c s h (tall o.choice os) f.line f.height in
    let few = f.few in
    let deep = m.deep in
    let e = bracketed_depth b m.whole in
    subst (λ x. Spells (closing b x os o) (written (state s h (o ∷ os) c Once false) ++ close_text b)) (sym m.built)
    (subst (λ x. Spells (part_finished (record { built = x; brackets = os; choice = o.choice; repeat = o.repeat; quoted = false })) (written (state s h (o ∷ os) c Once false) ++ close_text b)) (sym (bracketed_built b m.whole (beneath c s) (tall o.choice os)))
    (subst (Spells (part_finished (state (bracketed b m.whole ∷ beneath c s) (Some (tall o.choice os + 1)) os o.choice o.repeat false)))
    (bracketed_text b m.whole ((before os (beneath o.choice (beneath c s)) ++ line_text o.choice (beneath c s)) ++ repeat_text o.repeat)
    ∙ ap (λ x. ((((before os (beneath o.choice (beneath c s)) ++ line_text o.choice (beneath c s)) ++ repeat_text o.repeat) ++ open_text x) ++ spelled m.whole) ++ close_text b) (sym same)
    ∙ ap (λ x. (before (o ∷ os) (beneath c s) ++ x) ++ close_text b) (sym m.spelling)
    ∙ ap (λ x. x ++ close_text b) (sym (append-nil _ ∙ append-nil _)))
    (finish_spells (bracketed b m.whole) (beneath c s) os o.choice o.repeat false f.before.0 f.before.2 (omega arith) f.before.1 (bracketed_part b m.whole o.repeat m.grammatical m.high) (omega arith))))

same_bracket : (b d : Bracket) → is_same b d ≡ true → d ≡ b
same_bracket Square Square e = refl
same_bracket Square Curly e = cc
same_bracket Curly Square e = cc
same_bracket Curly Curly e = refl

no_choice : {G : Type 0} (b : Bool) (s : Reading) → cond b None None ≡ Some s → G
no_choice true s e = cc
no_choice false s e = cc

closed_op : (b : Bracket) (x : Built) → op_of b x ≡ with_op x (Rattle.tv_picture.specs.Parsing.bracket_op b)
closed_op Square x = refl
closed_op Curly x = refl

close_parts : (b : Bracket) (t : List Pattern) (h : Option ℕ) (os : List Open) (c : Bool) (r : Repeat) (s : Reading) → IsFine (state t h os c r false) → bracket_closed (state t h os c r false) b ≡ Some s → Spells s (written (state t h os c r false) ++ close_text b)
close_parts b t h [] c r s f e = no_choice (is_once r) s e
close_parts b t h (o ∷ os) c r s f e = chosen (is_once r) (closed_as (state t h (o ∷ os) c r false) b (o ∷ os)) None s e
    (λ once e'. chosen (is_same b o.bracket) (Some (part_finished (record { built = with_op (merged c (Built' t h)) (Rattle.tv_picture.specs.Parsing.bracket_op b); brackets = os; choice = o.choice; repeat = o.repeat; quoted = false }))) None s e'
    (λ same e''.
    let is : r ≡ Once = is_once_true r once in
    some_same (part_finished (record { built = with_op (merged c (Built' t h)) (Rattle.tv_picture.specs.Parsing.bracket_op b); brackets = os; choice = o.choice; repeat = o.repeat; quoted = false })) s s (written (state t h (o ∷ os) c r false) ++ close_text b) e''
    (subst (λ x. Spells (part_finished (record { built = x; brackets = os; choice = o.choice; repeat = o.repeat; quoted = false })) (written (state t h (o ∷ os) c r false) ++ close_text b)) (closed_op b (merged c (Built' t h)))
    (subst (λ x. Spells (closing b (merged c (Built' t h)) os o) (written (state t h (o ∷ os) c x false) ++ close_text b)) (sym is)
    (closed_spells b t h o os c (subst (λ x. IsFine (state t h (o ∷ os) c x false)) is f) (same_bracket b o.bracket same)))))
    (λ _ e''. no_step s e''))
    (λ _ e'. no_step s e')

close_step : (r s : Reading) (b : Bracket) → IsFine r → r.quoted ≡ false → bracket_closed r b ≡ Some s → Spells s (written r ++ close_text b)
close_step r s b f unquoted e =
    subst (λ q. Spells s (written (state r.built.stack r.built.height r.brackets r.choice r.repeat q) ++ close_text b)) (sym unquoted)
    (close_parts b r.built.stack r.built.height r.brackets r.choice r.repeat s (record { line = f.line; before = f.before; repeat = f.repeat; few = f.few; height = f.height }) e)

-- ---- any character

spells_at : (r s : Reading) (c n : ℕ) → (c == n) ≡ true → Spells s (written r ++ n ∷ []) → Spells s (written r ++ c ∷ [])
spells_at r s c n t h = subst (λ (x : ℕ). Spells s (written r ++ x ∷ [])) (sym (eqb-true c n t)) h

clash : (c n : ℕ) → (c == n) ≡ false → n ≡ c → ⊥
clash c n e same = let yes : (c == n) ≡ true = eq-eqb c n (sym same) in cc

plain_of : (c : ℕ) → IsNone c → (k : ℕ) → k < 12 → get_or (codes "#?&@!;*[]{},") k c ≡ c → ⊥
plain_of c n zero h e = clash c 35 n.0 e
plain_of c n (suc zero) h e = clash c 63 n.1 e
plain_of c n (suc (suc zero)) h e = clash c 38 n.2 e
plain_of c n (suc (suc (suc zero))) h e = clash c 64 n.3 e
plain_of c n (suc (suc (suc (suc zero)))) h e = clash c 33 n.4 e
plain_of c n (suc (suc (suc (suc (suc zero))))) h e = clash c 59 n.5 e
plain_of c n (suc (suc (suc (suc (suc (suc zero)))))) h e = clash c 42 n.6 e
plain_of c n (suc (suc (suc (suc (suc (suc (suc zero))))))) h e = clash c 91 n.7 e
plain_of c n (suc (suc (suc (suc (suc (suc (suc (suc zero)))))))) h e = clash c 93 n.9 e
plain_of c n (suc (suc (suc (suc (suc (suc (suc (suc (suc zero))))))))) h e = clash c 123 n.8 e
plain_of c n (suc (suc (suc (suc (suc (suc (suc (suc (suc (suc zero)))))))))) h e = clash c 125 n.10 e
plain_of c n (suc (suc (suc (suc (suc (suc (suc (suc (suc (suc (suc zero))))))))))) h e = clash c 44 n.11 e
plain_of c n (suc (suc (suc (suc (suc (suc (suc (suc (suc (suc (suc (suc k)))))))))))) h e = absurd (omega arith)

is_plain : (c : ℕ) → IsNone c → IsPlain c
is_plain c n (k, within, e) = plain_of c n k within e

last_spells : (r s : Reading) (c : ℕ) → IsFine r → r.quoted ≡ false → IsNone c → cond (nat_le 48 c && nat_le c 57) (counted_as r (c - 48) r.repeat) (Some (with_single_mark r (Literal c))) ≡ Some s → ((nat_le 48 c && nat_le c 57) ≡ true) × IsDigit c ⊎ ((nat_le 48 c && nat_le c 57) ≡ false) × (IsDigit c → ⊥) → Spells s (written r ++ c ∷ [])
last_spells r s c f u n e (inl (t, digit)) =
    let same : 48 + (c - 48) ≡ c = (let low = digit.0 in omega arith) in
    let small : c - 48 < 10 = (let low = digit.0 in let high = digit.1 in omega arith) in
    subst (λ (x : ℕ). Spells s (written r ++ x ∷ [])) same
    (digit_spells r s r.repeat (c - 48) f u refl small (subst IsPlain (sym same) (is_plain c n)) (sym (held (nat_le 48 c && nat_le c 57) (counted_as r (c - 48) r.repeat) (Some (with_single_mark r (Literal c))) t) ∙ e))
last_spells r s c f u n e (inr (t, barred)) =
    mark_step r s (Literal c) c f u (is_plain c n) (inr barred) refl (sym (skip (nat_le 48 c && nat_le c 57) (counted_as r (c - 48) r.repeat) (Some (with_single_mark r (Literal c))) t) ∙ e)

plain_spells : (r s : Reading) (c : ℕ) → IsFine r → r.quoted ≡ false → plain_step r c ≡ Some s → Spells s (written r ++ c ∷ [])
plain_spells r s c f u e0 =
    chosen (c == 35) _ _ s e0 (λ t e. spells_at r s c 35 t (mark_step r s Digit 35 f u tt (inr refl) refl e)) (λ n0 e1.
    chosen (c == 63) _ _ s e1 (λ t e. spells_at r s c 63 t (mark_step r s Letter 63 f u tt (inr refl) refl e)) (λ n1 e2.
    chosen (c == 38) _ _ s e2 (λ t e. spells_at r s c 38 t (mark_step r s Capital 38 f u tt (inr refl) refl e)) (λ n2 e3.
    chosen (c == 64) _ _ s e3 (λ t e. spells_at r s c 64 t (mark_step r s Any 64 f u tt (inr refl) refl e)) (λ n3 e4.
    chosen (c == 33) _ _ s e4 (λ t e. spells_at r s c 33 t (mark_step r s NotLower 33 f u tt (inr refl) refl e)) (λ n4 e5.
    chosen (c == 59) _ _ s e5 (λ t e. spells_at r s c 59 t (quote_step r s f u e)) (λ n5 e6.
    chosen (c == 42) _ _ s e6 (λ t e. spells_at r s c 42 t (star_step r s f u e)) (λ n6 e7.
    chosen (c == 91) _ _ s e7 (λ t e. spells_at r s c 91 t (open_step r s Square 91 f u refl e)) (λ n7 e8.
    chosen (c == 123) _ _ s e8 (λ t e. spells_at r s c 123 t (open_step r s Curly 123 f u refl e)) (λ n8 e9.
    chosen (c == 93) _ _ s e9 (λ t e. spells_at r s c 93 t (close_step r s Square f u e)) (λ n9 e10.
    chosen (c == 125) _ _ s e10 (λ t e. spells_at r s c 125 t (close_step r s Curly f u e)) (λ n10 e11.
    chosen (c == 44) _ _ s e11 (λ t e. spells_at r s c 44 t (divide_step r s f u e)) (λ n11 e12.
    last_spells r s c f u (n0, n1, n2, n3, n4, n5, n6, n7, n8, n9, n10, n11) e12 (is_digit c)))))))))))))

pub step_spells : (r s : Reading) (c : ℕ) → IsFine r → text_step r c ≡ Some s → Spells s (written r ++ c ∷ [])
step_spells r s c f e = chosen r.quoted _ _ s e (λ t e'. quoted_step r s c f t e') (λ u e'. plain_spells r s c f u e')

pub steps_spell : (text : List ℕ) (r s : Reading) → IsFine r → text_steps r text ≡ Some s → Spells s (written r ++ text)
steps_spell [] r s f e = some_same r s r (written r ++ []) e (record { fine = f; spelling = sym (append-nil (written r)) })
steps_spell (c ∷ text) r s f e = later (text_step r c) refl e (λ t g e'. steps_spell text t s g e')
  where
    later : (o : Option Reading) → text_step r c ≡ o → option_and_then (λ t. text_steps t text) o ≡ Some s → ((t : Reading) → IsFine t → text_steps t text ≡ Some s → Spells s (written t ++ text)) → Spells s (written r ++ c ∷ text)
    later None is e' rest = no_step s e'
    later (Some t) is e' rest =
        let first = step_spells r t c f is in
        subst (Spells s) (ap (λ x. x ++ text) first.spelling ∙ append_assoc (written r) (c ∷ []) text) (rest t first.fine e')

pub start_fine : IsFine nothing_parsed
start_fine = record { line = (tt, refl, omega arith); before = refl; repeat = tt; few = omega arith; height = refl }

-- ---- the end of the text

-- the alternatives of what has been read are a picture
pub record Closes (r : Reading) (text : List ℕ) : Type 0 where
  pub whole : Pattern
  pub built : merged r.choice r.built ≡ record { stack = whole ∷ []; height = Some 1 }
  pub picture : IsPicture whole
  pub spelling : spelled whole ≡ text

pub closes : (s : List Pattern) (h : Option ℕ) (c : Bool) (text : List ℕ) → Spells (state s h [] c Once false) text → Closes (state s h [] c Once false) text
closes s h c text sp =
    let f = sp.fine in
    let m = merge 0 c s h 0 f.line (f.height ∙ ap Some (tall_parts c [])) in
    let deep = m.deep in
    record {
      whole = m.whole;
      built = m.built ∙ ap (λ t. Built' (m.whole ∷ t) (Some (0 + 1))) f.before ∙ ap (λ (k : ℕ). Built' (m.whole ∷ []) (Some k)) (omega arith);
      picture = (m.grammatical, m.high, omega arith);
      spelling = sym m.spelling ∙ sym (append-nil _ ∙ append-nil _) ∙ sp.spelling;
    }

-- ---- each reading can be completed

abbrev pub Ends : Reading → Type 0
Ends r = (more : List ℕ) × (s : List Pattern) × (h : Option ℕ) × (c : Bool) × (text_steps r more ≡ Some (state s h [] c Once false))

closes_with : (b : Bracket) → (n : ℕ) × ((r : Reading) → r.quoted ≡ false → text_step r n ≡ bracket_closed r b)
closes_with Square = (93, λ r e. unquoted_step r 93 e)
closes_with Curly = (125, λ r e. unquoted_step r 125 e)

same_itself : (b : Bracket) → is_same b b ≡ true
same_itself Square = refl
same_itself Curly = refl

ends_brackets : (os : List Open) (b : Built) (c : Bool) → Ends (record { built = b; brackets = os; choice = c; repeat = Once; quoted = false })
ends_brackets [] b c = ([], b.stack, b.height, c, refl)
ends_brackets (o ∷ os) b c =
    let n = closes_with o.bracket in
    let r : Reading = record { built = b; brackets = o ∷ os; choice = c; repeat = Once; quoted = false } in
    let t : Reading = part_finished (record { built = with_op (merged c b) (Rattle.tv_picture.specs.Parsing.bracket_op o.bracket); brackets = os; choice = o.choice; repeat = o.repeat; quoted = false }) in
    let e : text_step r n.0 ≡ Some t = n.1 r refl ∙ held (is_same o.bracket o.bracket) (Some t) None (same_itself o.bracket) in
    let rest = ends_brackets os t.built o.choice in
    (n.0 ∷ rest.0, rest.1, rest.2, rest.3, ap (option_and_then (λ x. text_steps x rest.0)) e ∙ rest.4)

ends_after : (r t : Reading) (c : ℕ) → text_step r c ≡ Some t → Ends t → Ends r
ends_after r t c e rest = (c ∷ rest.0, rest.1, rest.2, rest.3, ap (option_and_then (λ x. text_steps x rest.0)) e ∙ rest.4)

ends_unquoted : (b : Built) (os : List Open) (c : Bool) (r : Repeat) → Ends (record { built = b; brackets = os; choice = c; repeat = r; quoted = false })
ends_unquoted b os c Once = ends_brackets os b c
ends_unquoted b os c Many = ends_after _ (with_single_mark (record { built = b; brackets = os; choice = c; repeat = Many; quoted = false }) Digit) 35 refl (ends_brackets os _ c)
ends_unquoted b os c (Times n) = ends_after _ (with_single_mark (record { built = b; brackets = os; choice = c; repeat = Times n; quoted = false }) Digit) 35 refl (ends_brackets os _ c)

pub ends : (r : Reading) → Ends r
ends r = cases r.quoted refl
  where
    cases : (q : Bool) → r.quoted ≡ q → Ends r
    cases true e = ends_after r (with_single_mark r (Quoted 97)) 97 (held r.quoted (Some (with_single_mark r (Quoted 97))) (plain_step r 97) e) (ends_brackets r.brackets _ r.choice)
    cases false e = subst (λ q. Ends (record { built = r.built; brackets = r.brackets; choice = r.choice; repeat = r.repeat; quoted = q })) (sym e) (ends_unquoted r.built r.brackets r.choice r.repeat)
