-- What a line of a certificate is read as, and that it is its spelling.
use Rattle.std.proofs.Common.{◌≡◌, ℕ, Bool, true, false, cond, List, [], ◌∷◌, ◌++◌, Option, Some, None, refl, sym, ap, ◌∙◌, append-nil, subst}
use Rattle.std.specs.Prelude.{ℤ, codes, IfSome, IsTrue}
use Rattle.std.specs.Option.{option_map}
use Rattle.std.proofs.lemmas.Slice.Eq.{bytes_eq-Decides}
use Rattle.tv_words.specs.declared.word.Word.{Word}
use Rattle.tv_words.specs.declared.word.Word.TheVariants.{Bare, Quoted}
use Rattle.tv_words.specs.Fields.{is_bare_word, name_in}
use Rattle.tv_words.specs.Reading.Numbers.{number_in}
use Rattle.tv_words.specs.Fields.{IsName, IsNumber, number_word}
use Rattle.tv_words.proofs.FieldLemmas.{word_is, number_word_read, read_number_word, name_read, read_name}
use Rattle.tv_model.specs.declared.desc.Version.{Version}
use Rattle.tv_model.specs.declared.desc.Version.TheVariants as versions
use Rattle.tv_model.specs.declared.desc.When.{When}
use Rattle.tv_model.specs.Description.Owners.{when_from}
use Rattle.tv_certificate.specs.declared.certificate.KeyLine.{KeyLine}
use Rattle.tv_certificate.specs.CertificateTexts.{IsKeyLine, IsWhen, end_words, is_letter, item_words, key_words, version_number, version_words, when_words}
use Rattle.tv_certificate.specs.CertificateReading.{is_block_end, key_item_in, key_line_from, key_line_read, key_when_in, letter_in, named_in, certificate_version_in, version_of, when_in}

-- a keyword and a name
named_if : (kind : List ℕ) (k w : Word) (name : List ℕ) (b : Bool) → is_bare_word k kind ≡ b → cond b (name_in w) None ≡ Some name → (k ∷ w ∷ [] ≡ Bare kind ∷ Bare name ∷ []) × IsName name
named_if kind k w name true eb e = let r = name_read w name e in (ap (λ x. x ∷ w ∷ []) (word_is k kind eb) ∙ ap (λ x. Bare kind ∷ x ∷ []) r.0, r.1)
named_if kind k w name false eb e = absurd cc

pub named_read : (kind : List ℕ) (ws : List Word) (name : List ℕ) → named_in kind ws ≡ Some name → (ws ≡ Bare kind ∷ Bare name ∷ []) × IsName name
named_read kind [] name e = absurd cc
named_read kind (a ∷ []) name e = absurd cc
named_read kind (k ∷ w ∷ []) name e = named_if kind k w name (is_bare_word k kind) refl e
named_read kind (a ∷ b ∷ c ∷ ds) name e = absurd cc

pub read_named : (kind name : List ℕ) → IsName name → named_in kind (Bare kind ∷ Bare name ∷ []) ≡ Some name
read_named kind name is = rw ((bytes_eq-Decides kind kind).1 refl, read_name name is) refl

-- letters
letter_if : (c ch : ℕ) (b : Bool) → is_letter c ≡ b → cond b (Some c) None ≡ Some ch → (Bare (c ∷ []) ≡ Bare (ch ∷ [])) × IsTrue (is_letter ch)
letter_if c ch true eb e = let same : c ≡ ch = cc in (ap (λ x. Bare (x ∷ [])) same, rw (← same) eb)
letter_if c ch false eb e = absurd cc

letter_read : (w : Word) (ch : ℕ) → letter_in w ≡ Some ch → (w ≡ Bare (ch ∷ [])) × IsTrue (is_letter ch)
letter_read (Bare []) ch e = absurd cc
letter_read (Bare (c ∷ [])) ch e = letter_if c ch (is_letter c) refl e
letter_read (Bare (a ∷ b ∷ cs)) ch e = absurd cc
letter_read (Quoted text) ch e = absurd cc

-- items of clusters
number_from : (w : Word) (item : Option ℤ) (o : Option ℤ) → number_in w ≡ o → option_map (λ n. Some n) o ≡ Some item → (w ∷ [] ≡ item_words item) × IfSome item IsNumber
number_from w item None eo e = absurd cc
number_from w None (Some n) eo e = absurd cc
number_from w (Some m) (Some n) eo e = let same : n ≡ m = cc in let r = number_word_read w m (eo ∙ ap (λ x. Some x) same) in (ap (λ x. x ∷ []) r.0, r.1)

read_number : (n : ℤ) → IsNumber n → option_map (λ item. Some item) (number_in (number_word n)) ≡ Some (Some n)
read_number n fits = rw (read_number_word n fits) refl

-- items of radio buttons
when_of : (k r n : Word) (shown : When) (oradios : Option (List ℕ)) (oitem : Option ℤ) → k ≡ Bare (codes "when") → name_in r ≡ oradios → number_in n ≡ oitem
    → when_from oradios oitem ≡ Some shown → (k ∷ r ∷ n ∷ [] ≡ when_words (Some shown)) × IsWhen versions.Two shown
when_of k r n shown None oitem ek er en e = absurd cc
when_of k r n shown (Some radios) None ek er en e = absurd cc
when_of k r n shown (Some radios) (Some item) ek er en e =
    let made : When = record { radios = radios; item = item } in
    let same : made ≡ shown = cc in
    let rr = name_read r radios er in
    let rn = number_word_read n item en in
    subst (λ x. (k ∷ r ∷ n ∷ [] ≡ when_words (Some x)) × IsWhen versions.Two x) same (rw (ek, rr.0, rn.0) refl, record { allowed = refl; radios = rr.1; item = rn.1 })

when_if : (k r n : Word) (shown : When) (b : Bool) → is_bare_word k (codes "when") ≡ b → cond b (when_from (name_in r) (number_in n)) None ≡ Some shown
    → (k ∷ r ∷ n ∷ [] ≡ when_words (Some shown)) × IsWhen versions.Two shown
when_if k r n shown true eb e = when_of k r n shown (name_in r) (number_in n) (word_is k (codes "when") eb) refl refl e
when_if k r n shown false eb e = absurd cc

when_read : (version : Version) (k r n : Word) (shown : When) → when_in version k r n ≡ Some shown → (k ∷ r ∷ n ∷ [] ≡ when_words (Some shown)) × IsWhen version shown
when_read versions.One k r n shown e = absurd cc
when_read versions.Two k r n shown e = when_if k r n shown (is_bare_word k (codes "when")) refl e

three_from : (version : Version) (k r n : Word) (shown : Option When) (o : Option When) → when_in version k r n ≡ o → option_map (λ x. Some x) o ≡ Some shown
    → (k ∷ r ∷ n ∷ [] ≡ when_words shown) × IfSome shown (IsWhen version)
three_from version k r n shown None eo e = absurd cc
three_from version k r n None (Some other) eo e = absurd cc
three_from version k r n (Some own) (Some other) eo e = let same : other ≡ own = cc in when_read version k r n own (eo ∙ ap (λ x. Some x) same)

read_when : (version : Version) (shown : When) → IsWhen version shown → when_in version (Bare (codes "when")) (Bare shown.radios) (number_word shown.item) ≡ Some shown
read_when versions.One shown is = absurd cc
read_when versions.Two shown is = rw (read_name shown.radios is.radios, read_number_word shown.item is.item) refl

-- what comes after the owner
pub record ReadRest (version : Version) (ws : List Word) (item : Option ℤ) (shown : Option When) : Type 0 where
  words : ws ≡ item_words item ++ when_words shown
  number : IfSome item IsNumber
  radios : IfSome shown (IsWhen version)

rest_read : (version : Version) (ws : List Word) (item : Option ℤ) (shown : Option When) → key_item_in ws ≡ Some item → key_when_in version ws ≡ Some shown → ReadRest version ws item shown
rest_read version [] None None ei ew = record { words = refl; number = tt; radios = tt }
rest_read version [] (Some n) shown ei ew = absurd cc
rest_read version [] None (Some s) ei ew = absurd cc
rest_read version (w ∷ []) item (Some s) ei ew = absurd cc
rest_read version (w ∷ []) item None ei ew =
    let r = number_from w item (number_in w) refl ei in
    record { words = r.0 ∙ sym (append-nil (item_words item)); number = r.1; radios = tt }
rest_read version (a ∷ b ∷ []) item shown ei ew = absurd cc
rest_read version (k ∷ r ∷ n ∷ []) (Some m) shown ei ew = absurd cc
rest_read version (k ∷ r ∷ n ∷ []) None shown ei ew =
    let t = three_from version k r n shown (when_in version k r n) refl ew in
    record { words = t.0; number = tt; radios = t.1 }
rest_read version (w ∷ k ∷ r ∷ n ∷ []) item shown ei ew =
    let m = number_from w item (number_in w) refl ei in
    let t = three_from version k r n shown (when_in version k r n) refl ew in
    record { words = ap (λ rest. w ∷ rest) t.0 ∙ ap (λ first. first ++ when_words shown) m.0; number = m.1; radios = t.1 }
rest_read version (a ∷ b ∷ c ∷ d ∷ e ∷ fs) item shown ei ew = absurd cc

read_item : (item : Option ℤ) (shown : Option When) → IfSome item IsNumber → key_item_in (item_words item ++ when_words shown) ≡ Some item
read_item None None fits = refl
read_item None (Some s) fits = refl
read_item (Some n) None fits = read_number n fits
read_item (Some n) (Some s) fits = read_number n fits

read_rest : (version : Version) (item : Option ℤ) (shown : Option When) → IfSome shown (IsWhen version) → key_when_in version (item_words item ++ when_words shown) ≡ Some shown
read_rest version None None is = refl
read_rest version (Some n) None is = refl
read_rest version None (Some s) is = ap (option_map (λ x. Some x)) (read_when version s is)
read_rest version (Some n) (Some s) is = ap (option_map (λ x. Some x)) (read_when version s is)

-- key lines
same_key : (k l o : Word) (rest : List Word) (line : KeyLine) → k ≡ Bare (codes "key") → l ≡ Bare (line.letter ∷ []) → o ≡ Bare line.owner → rest ≡ item_words line.item ++ when_words line.when → k ∷ l ∷ o ∷ rest ≡ key_words line
same_key k l o rest line ek el eo er = rw (ek, el, eo, er) refl

module _ (version : Version) where
  key_of : (k l o : Word) (rest : List Word) (line : KeyLine) (ol : Option ℕ) (oo : Option (List ℕ)) (oi : Option (Option ℤ)) (ow : Option (Option When)) → k ≡ Bare (codes "key") → letter_in l ≡ ol → name_in o ≡ oo → key_item_in rest ≡ oi → key_when_in version rest ≡ ow
      → key_line_from ol oo oi ow ≡ Some line → (k ∷ l ∷ o ∷ rest ≡ key_words line) × IsKeyLine version line
  key_of k l o rest line None oo oi ow ek el eo ei ew e = absurd cc
  key_of k l o rest line (Some letter) None oi ow ek el eo ei ew e = absurd cc
  key_of k l o rest line (Some letter) (Some owner) None ow ek el eo ei ew e = absurd cc
  key_of k l o rest line (Some letter) (Some owner) (Some number) None ek el eo ei ew e = absurd cc
  key_of k l o rest line (Some letter) (Some owner) (Some number) (Some shown) ek el eo ei ew e =
      let made : KeyLine = record { letter = letter; owner = owner; item = number; when = shown } in
      let same : made ≡ line = cc in
      let rl = letter_read l letter el in
      let ro = name_read o owner eo in
      let rr = rest_read version rest number shown ei ew in
      subst (λ x. (k ∷ l ∷ o ∷ rest ≡ key_words x) × IsKeyLine version x) same (same_key k l o rest made ek rl.0 ro.0 rr.words, record { letter = rl.1; owner = ro.1; item = rr.number; when = rr.radios })

  key_if : (k l o : Word) (rest : List Word) (line : KeyLine) (b : Bool) → is_bare_word k (codes "key") ≡ b
      → cond b (key_line_from (letter_in l) (name_in o) (key_item_in rest) (key_when_in version rest)) None ≡ Some line → (k ∷ l ∷ o ∷ rest ≡ key_words line) × IsKeyLine version line
  key_if k l o rest line true eb e = key_of k l o rest line (letter_in l) (name_in o) (key_item_in rest) (key_when_in version rest) (word_is k (codes "key") eb) refl refl refl refl e
  key_if k l o rest line false eb e = absurd cc

  pub key_read : (ws : List Word) (line : KeyLine) → key_line_read version ws ≡ Some line → (ws ≡ key_words line) × IsKeyLine version line
  key_read [] line e = absurd cc
  key_read (a ∷ []) line e = absurd cc
  key_read (a ∷ b ∷ []) line e = absurd cc
  key_read (k ∷ l ∷ o ∷ rest) line e = key_if k l o rest line (is_bare_word k (codes "key")) refl e

  pub read_key : (line : KeyLine) → IsKeyLine version line → key_line_read version (key_words line) ≡ Some line
  read_key line is = rw (is.letter, read_name line.owner is.owner, read_item line.item line.when is.item, read_rest version line.item line.when is.when) refl

-- the lines of fixed words
pub end_read : (ws : List Word) → is_block_end ws ≡ true → ws ≡ end_words
end_read [] e = absurd cc
end_read (k ∷ []) e = ap (λ x. x ∷ []) (word_is k (codes "end") e)
end_read (a ∷ b ∷ cs) e = absurd cc

version_if : (w : Word) (version v : Version) (other : Option Version) (b : Bool) → is_bare_word w (version_number version) ≡ b → (other ≡ Some v → w ≡ Bare (version_number v)) → cond b (Some version) other ≡ Some v → w ≡ Bare (version_number v)
version_if w version v other true eb there e = let same : version ≡ v = cc in subst (λ x. w ≡ Bare (version_number x)) same (word_is w (version_number version) eb)
version_if w version v other false eb there e = there e

version_word : (w : Word) (v : Version) → version_of w ≡ Some v → w ≡ Bare (version_number v)
version_word w v e =
    version_if w versions.One v _ (is_bare_word w (version_number versions.One)) refl
    (version_if w versions.Two v None (is_bare_word w (version_number versions.Two)) refl (λ none. absurd cc)) e

first_if : (k w : Word) (v : Version) (b : Bool) → is_bare_word k (codes "tvcert") ≡ b → cond b (version_of w) None ≡ Some v → k ∷ w ∷ [] ≡ version_words v
first_if k w v true eb e = ap (λ x. x ∷ w ∷ []) (word_is k (codes "tvcert") eb) ∙ ap (λ x. Bare (codes "tvcert") ∷ x ∷ []) (version_word w v e)
first_if k w v false eb e = absurd cc

pub version_read : (ws : List Word) (v : Version) → certificate_version_in ws ≡ Some v → ws ≡ version_words v
version_read [] v e = absurd cc
version_read (a ∷ []) v e = absurd cc
version_read (k ∷ w ∷ []) v e = first_if k w v (is_bare_word k (codes "tvcert")) refl e
version_read (a ∷ b ∷ c ∷ ds) v e = absurd cc

pub read_version : (v : Version) → certificate_version_in (version_words v) ≡ Some v
read_version versions.One = refl
read_version versions.Two = refl
