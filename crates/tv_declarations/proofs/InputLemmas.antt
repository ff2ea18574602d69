-- A line declares an input line just where it is spelled so.
use Rattle.std.proofs.Common.{◌≡◌, ℕ, Bool, true, false, cond, List, [], ◌∷◌, ◌++◌, Option, Some, None, refl, ap, ◌∙◌, subst}
use Rattle.std.specs.Prelude.{ℤ, codes}
use Rattle.std.proofs.lemmas.List.{append-nil}
use Rattle.tv_valid.specs.declared.input.DomainSpec.{DomainSpec}
use Rattle.tv_valid.specs.declared.input.DomainSpec.TheVariants as domains
use Rattle.tv_model.specs.declared.node.Node.{Node}
use Rattle.tv_declarations.specs.declared.place.Place.{Place}
use Rattle.tv_declarations.specs.declared.place.Position.{Position}
use Rattle.tv_declarations.specs.declared.input.Asked.{Asked}
use Rattle.tv_declarations.specs.declared.input.Options.{Options}
use Rattle.tv_words.specs.declared.word.Word.{Word}
use Rattle.tv_words.specs.declared.word.Word.TheVariants.{Bare, Quoted}
use Rattle.tv_words.specs.Fields.{is_bare_word, name_in, text_in}
use Rattle.tv_words.specs.Reading.Numbers.{number_in}
use Rattle.tv_declarations.specs.Reading.Commands.{is_next, after_next}
use Rattle.tv_declarations.specs.Reading.Places.{place_from, node_at}
use Rattle.tv_declarations.specs.Reading.Inputs.{filter_in, picture_in, range_in, domain_in, options_in, asked_after, asked_from, asked_in, input_of, input_in}
use Rattle.tv_declarations.specs.Spelling.Terms.{word_if}
use Rattle.tv_declarations.specs.Spelling.Nodes.{domain_words, IsSpelledDomain}
use Rattle.tv_declarations.proofs.OptionLemmas.{map_some, with2_some, with4_some}
use Rattle.tv_words.proofs.FieldLemmas.{word_is, number_word_read, read_number_word, name_read, text_read}
use Rattle.tv_declarations.proofs.CommandLemmas.{nothing_more, next_word}
use Rattle.tv_declarations.proofs.PlaceLemmas.{IsNodeOf, node_made}

-- domains
abbrev DomainIs : List Word → DomainSpec × List Word → Type 0
DomainIs ws found = (ws ≡ domain_words found.0 ++ found.1) × IsSpelledDomain found.0

filter_made : (w : Word) (more : List Word) (found : DomainSpec × List Word) → ((text : List ℕ) × (text_in w ≡ Some text) × ((domains.Filter text, more) ≡ found)) → DomainIs (Bare (codes "filter") ∷ w ∷ more) found
filter_made w more found (text, ew, same) = subst (DomainIs (Bare (codes "filter") ∷ w ∷ more)) same (rw (text_read w text ew) refl, tt)

filter_read : (fs : List Word) (found : DomainSpec × List Word) → filter_in fs ≡ Some found → DomainIs (Bare (codes "filter") ∷ fs) found
filter_read [] found e = absurd cc
filter_read (w ∷ more) found e = filter_made w more found (map_some _ (text_in w) found e)

picture_made : (w : Word) (more : List Word) (found : DomainSpec × List Word) → ((text : List ℕ) × (text_in w ≡ Some text) × ((domains.Picture text, more) ≡ found)) → DomainIs (Bare (codes "picture") ∷ w ∷ more) found
picture_made w more found (text, ew, same) = subst (DomainIs (Bare (codes "picture") ∷ w ∷ more)) same (rw (text_read w text ew) refl, tt)

picture_read : (fs : List Word) (found : DomainSpec × List Word) → picture_in fs ≡ Some found → DomainIs (Bare (codes "picture") ∷ fs) found
picture_read [] found e = absurd cc
picture_read (w ∷ more) found e = picture_made w more found (map_some _ (text_in w) found e)

range_made : (a b : Word) (more : List Word) (found : DomainSpec × List Word) → ((least : ℤ) × (greatest : ℤ) × (number_in a ≡ Some least) × (number_in b ≡ Some greatest) × ((domains.Range least greatest, more) ≡ found)) → DomainIs (Bare (codes "range") ∷ a ∷ b ∷ more) found
range_made a b more found (least, greatest, ea, eb, same) =
    let low = number_word_read a least ea in
    let high = number_word_read b greatest eb in
    subst (DomainIs (Bare (codes "range") ∷ a ∷ b ∷ more)) same (rw (low.0, high.0) refl, (low.1, high.1))

range_read : (fs : List Word) (found : DomainSpec × List Word) → range_in fs ≡ Some found → DomainIs (Bare (codes "range") ∷ fs) found
range_read [] found e = absurd cc
range_read (a ∷ []) found e = absurd cc
range_read (a ∷ b ∷ more) found e = range_made a b more found (with2_some _ (number_in a) (number_in b) found e)

any_made : (fs : List Word) (found : DomainSpec × List Word) → (domains.Any, fs) ≡ found → DomainIs (Bare (codes "any") ∷ fs) found
any_made fs found same = subst (DomainIs (Bare (codes "any") ∷ fs)) same (refl, tt)

domain_if : (k : Word) (fs : List Word) (found : DomainSpec × List Word) (a b c d : Bool) → is_bare_word k (codes "any") ≡ a → is_bare_word k (codes "filter") ≡ b → is_bare_word k (codes "range") ≡ c → is_bare_word k (codes "picture") ≡ d → cond a (Some (domains.Any, fs)) (cond b (filter_in fs) (cond c (range_in fs) (cond d (picture_in fs) None))) ≡ Some found → DomainIs (k ∷ fs) found
domain_if k fs found true b c d ea eb ec ed e = rw (word_is k (codes "any") ea) (any_made fs found cc)
domain_if k fs found false true c d ea eb ec ed e = rw (word_is k (codes "filter") eb) (filter_read fs found e)
domain_if k fs found false false true d ea eb ec ed e = rw (word_is k (codes "range") ec) (range_read fs found e)
domain_if k fs found false false false true ea eb ec ed e = rw (word_is k (codes "picture") ed) (picture_read fs found e)
domain_if k fs found false false false false ea eb ec ed e = absurd cc

domain_read : (ws : List Word) (found : DomainSpec × List Word) → domain_in ws ≡ Some found → DomainIs ws found
domain_read [] found e = absurd cc
domain_read (k ∷ fs) found e = domain_if k fs found (is_bare_word k (codes "any")) (is_bare_word k (codes "filter")) (is_bare_word k (codes "range")) (is_bare_word k (codes "picture")) refl refl refl refl e

read_domain : (domain : DomainSpec) (more : List Word) → IsSpelledDomain domain → domain_in (domain_words domain ++ more) ≡ Some (domain, more)
read_domain domains.Any more is = refl
read_domain (domains.Filter text) more is = refl
read_domain (domains.Range least greatest) more (low, high) = rw (read_number_word least low, read_number_word greatest high) refl
read_domain (domains.Picture text) more is = refl

-- options
abbrev option_words : Options → List Word
option_words o = word_if o.validates (codes "validate") ++ (word_if o.optional (codes "optional") ++ word_if o.fill (codes "fill"))

options_read : (ws : List Word) (options : Options) → options_in ws ≡ Some options → ws ≡ option_words options
options_read ws options e =
    let after_validate = after_next (codes "validate") ws in
    let after_optional = after_next (codes "optional") after_validate in
    let found : Options = record { validates = is_next (codes "validate") ws; optional = is_next (codes "optional") after_validate; fill = is_next (codes "fill") after_optional } in
    let last = nothing_more (after_next (codes "fill") after_optional) found options e in
    next_word (codes "validate") ws
    ∙ ap (λ x. word_if found.validates (codes "validate") ++ x) (next_word (codes "optional") after_validate
    ∙ ap (λ x. word_if found.optional (codes "optional") ++ x) (next_word (codes "fill") after_optional
    ∙ ap (λ x. word_if found.fill (codes "fill") ++ x) last.0 ∙ append-nil (word_if found.fill (codes "fill"))))
    ∙ ap option_words last.1

abbrev options_of : Bool → Bool → Bool → Options
options_of a b c = record { validates = a; optional = b; fill = c }

read_options : (a b c : Bool) → options_in (word_if a (codes "validate") ++ (word_if b (codes "optional") ++ word_if c (codes "fill"))) ≡ Some (options_of a b c)
read_options true true true = refl
read_options true true false = refl
read_options true false true = refl
read_options true false false = refl
read_options false true true = refl
read_options false true false = refl
read_options false false true = refl
read_options false false false = refl

-- what an input line says after its greatest length
abbrev asked_words : Asked → List Word
asked_words asked = domain_words asked.domain ++ (Quoted asked.start ∷ option_words asked.options)

abbrev AskedIs : List Word → Asked → Type 0
AskedIs ws asked = (ws ≡ asked_words asked) × IsSpelledDomain asked.domain

asked_made : (ws : List Word) (domain : DomainSpec) (t : Word) (os : List Word) (asked : Asked) → DomainIs ws (domain, t ∷ os) → ((start : List ℕ) × (options : Options) × (text_in t ≡ Some start) × (options_in os ≡ Some options) × (record { domain = domain; start = start; options = options } ≡ asked)) → AskedIs ws asked
asked_made ws domain t os asked is (start, options, et, eo, same) =
    let after : t ∷ os ≡ Quoted start ∷ option_words options = rw (text_read t start et, options_read os options eo) refl in
    subst (AskedIs ws) same (is.0 ∙ ap (λ x. domain_words domain ++ x) after, is.1)

asked_rest : (ws : List Word) (domain : DomainSpec) (rest : List Word) (asked : Asked) → DomainIs ws (domain, rest) → asked_after domain rest ≡ Some asked → AskedIs ws asked
asked_rest ws domain [] asked is e = absurd cc
asked_rest ws domain (t ∷ os) asked is e = asked_made ws domain t os asked is (with2_some _ (text_in t) (options_in os) asked e)

asked_if : (ws : List Word) (asked : Asked) (o : Option (DomainSpec × List Word)) → domain_in ws ≡ o → asked_from o ≡ Some asked → AskedIs ws asked
asked_if ws asked None eo e = absurd cc
asked_if ws asked (Some found) eo e = asked_rest ws found.0 found.1 asked (domain_read ws found eo) e

asked_read : (ws : List Word) (asked : Asked) → asked_in ws ≡ Some asked → AskedIs ws asked
asked_read ws asked e = asked_if ws asked (domain_in ws) refl e

pub read_asked : (domain : DomainSpec) (start : List ℕ) (a b c : Bool) → IsSpelledDomain domain → asked_in (domain_words domain ++ (Quoted start ∷ (word_if a (codes "validate") ++ (word_if b (codes "optional") ++ word_if c (codes "fill"))))) ≡ Some (record { domain = domain; start = start; options = options_of a b c })
read_asked domain start a b c is =
    ap asked_from (read_domain domain (Quoted start ∷ (word_if a (codes "validate") ++ (word_if b (codes "optional") ++ word_if c (codes "fill")))) is)
    ∙ rw (read_options a b c) refl

-- input lines
input_made : (at : Position) (m x y w l : Word) (fs : List Word) (n : Node) → ((asked : Asked) × (name : List ℕ) × (p : Place) × (max : ℤ) × (asked_in fs ≡ Some asked) × (name_in m ≡ Some name) × (place_from x y w ≡ Some p) × (number_in l ≡ Some max) × (node_at at p (input_of name max asked) ≡ n)) → IsNodeOf at n (Bare (codes "input") ∷ m ∷ x ∷ y ∷ w ∷ l ∷ fs)
input_made at m x y w l fs n (asked, name, p, max, ea, em, ep, el, same) =
    let named = name_read m name em in
    let long = number_word_read l max el in
    let is = asked_read fs asked ea in
    node_made at x y w p (input_of name max asked) _ n ep (named.1, long.1, is.1) (rw (named.0, long.0, is.0) refl) same

pub input_line : (at : Position) (fields : List Word) (n : Node) → input_in at fields ≡ Some n → IsNodeOf at n (Bare (codes "input") ∷ fields)
input_line at [] n e = absurd cc
input_line at (a ∷ []) n e = absurd cc
input_line at (a ∷ b ∷ []) n e = absurd cc
input_line at (a ∷ b ∷ c ∷ []) n e = absurd cc
input_line at (a ∷ b ∷ c ∷ d ∷ []) n e = absurd cc
input_line at (m ∷ x ∷ y ∷ w ∷ l ∷ fs) n e = input_made at m x y w l fs n (with4_some _ (asked_in fs) (name_in m) (place_from x y w) (number_in l) n e)
