-- The certificate that is made of a description is sound for it.
use Rattle.std.proofs.Common.{◌≡◌, ◌≢◌, ℕ, ◌==◌, Bool, true, false, not, ◌&&◌, List, [], ◌∷◌, ◌++◌, map, flat_map, Option, Some, None, refl, sym, ap, ◌∙◌, append_assoc, eq-eqb, subst}
use Rattle.std.specs.Prelude.{All, IsTrue, bytes_eq}
use Rattle.std.specs.List.{AllByRecursion, list_all, list_any}
use Rattle.std.proofs.lemmas.Bool.{and_parts, or_parts, not-true, false≢true, true≢false}
use Rattle.std.proofs.lemmas.List.{append-nil}
use Rattle.std.proofs.lemmas.List.Elements.{All-from_recursion, All-head, All-tail, All-weaker}
use Rattle.std.proofs.lemmas.Slice.Eq.{bytes_eq-Decides}
use Rattle.tv_model.specs.declared.node.Node.{Node}
use Rattle.tv_model.specs.declared.kind.Kind.{Kind}
use Rattle.tv_model.specs.declared.kind.Kind.TheVariants as kinds
use Rattle.tv_model.specs.declared.desc.Desc.{Desc}
use Rattle.tv_model.specs.declared.desc.Dialog.{Dialog}
use Rattle.tv_model.specs.Description.Nodes.{is_dialog, name_of}
use Rattle.tv_model.specs.Description.Heads.{dialog_head_of}
use Rattle.tv_model.specs.declared.desc.Version.{Version}
use Rattle.tv_model.specs.Description.Owners.{KeyOwner, owners_of}
use Rattle.tv_model.specs.Description.Certificates.{dialog_name, letters, tabs_of}
use Rattle.tv_model.specs.Faults.Lines.{after_seen}
use Rattle.tv_model.specs.Description.Names.{is_option_named, shares_name}
use Rattle.tv_certificate.specs.declared.certificate.KeyLine.{KeyLine}
use Rattle.tv_check.specs.Certificates.{IsSoundCertificate, NamesOwner, NamesOwners, block_of, certificate_of, key_line, key_lines, keys_of, owners_in, tab_lines}

-- no two items are alike
abbrev is_apart : {A : Type 0} → (A → A → Bool) → List A → Bool
is_apart same [] = true
is_apart same (x ∷ xs) = list_all (λ y. not (same x y) && not (same y x)) xs && is_apart same xs

abbrev Differ : {A : Type 0} → (A → A → Bool) → A → A → Type 0
Differ same x y = (same x y ≡ false) × (same y x ≡ false)

all_differ : {A : Type 0} (same : A → A → Bool) (x : A) (xs : List A) → list_all (λ y. not (same x y) && not (same y x)) xs ≡ true → AllByRecursion (Differ same x) xs
all_differ same x [] e = tt
all_differ same x (y ∷ ys) e =
    let here = and_parts (not (same x y) && not (same y x)) (list_all (λ z. not (same x z) && not (same z x)) ys) e in
    let each = and_parts (not (same x y)) (not (same y x)) here.0 in
    ((not-true (same x y) each.0, not-true (same y x) each.1), all_differ same x ys here.1)

-- from two facts of each item a third
both : {A : Type 0} (P Q R : A → Type 0) → ((x : A) → P x → Q x → R x) → (xs : List A) → AllByRecursion P xs → AllByRecursion Q xs → AllByRecursion R xs
both P Q R f [] p q = tt
both P Q R f (x ∷ xs) p q = (f x p.0 q.0, both P Q R f xs p.1 q.1)

-- ---- key lines of letters

module _ (owners : ℕ → List KeyOwner) where
  abbrev pub lines_for : List ℕ → List KeyLine
  lines_for ls = flat_map (λ letter. map (key_line letter) (owners letter)) ls

  abbrev alike : ℕ → ℕ → Bool
  alike a b = a == b

  -- lines of another letter
  passed_over : (l letter : ℕ) (os : List KeyOwner) (rest : List KeyLine) → l == letter ≡ false → owners_in (map (key_line l) os ++ rest) letter ≡ owners_in rest letter
  passed_over l letter [] rest other = refl
  passed_over l letter (o ∷ os) rest other = rw other (passed_over l letter os rest other)

  no_line : (letter : ℕ) (ls : List ℕ) → AllByRecursion (Differ alike letter) ls → owners_in (lines_for ls) letter ≡ []
  no_line letter [] apart = refl
  no_line letter (l ∷ ls) apart = passed_over l letter (owners l) (lines_for ls) apart.0.1 ∙ no_line letter ls apart.1

  here : (letter : ℕ) (os : List KeyOwner) (rest : List KeyLine) → letter == letter ≡ true → owners_in rest letter ≡ [] → owners_in (map (key_line letter) os ++ rest) letter ≡ os
  here letter [] rest same none = none
  here letter (o ∷ os) rest same none = rw same (ap (λ others. o ∷ others) (here letter os rest same none))

  self : (n : ℕ) → n == n ≡ true
  self n = eq-eqb n n refl

  each_named : (ls : List ℕ) → is_apart alike ls ≡ true → AllByRecursion (λ letter. owners_in (lines_for ls) letter ≡ owners letter) ls
  each_named [] apart = tt
  each_named (l ∷ ls) apart =
      let split = and_parts (list_all (λ y. not (l == y) && not (y == l)) ls) (is_apart alike ls) apart in
      let others = all_differ alike l ls split.0 in (
        here l (owners l) (lines_for ls) (self l) (no_line l ls others),
        both (Differ alike l) (λ letter. owners_in (lines_for ls) letter ≡ owners letter) (λ letter. owners_in (lines_for (l ∷ ls)) letter ≡ owners letter)
            (λ letter differ later. passed_over l letter (owners l) (lines_for ls) differ.0 ∙ later) ls others (each_named ls split.1),
      )

-- ---- blocks of dialogs

abbrev named_alike : Dialog → Dialog → Bool
named_alike a b = bytes_eq (dialog_name a) (dialog_name b)

module _ (version : Version) where
  other_block : (d : Dialog) (name : List ℕ) (ds : List Dialog) → bytes_eq (dialog_name d) name ≡ false → key_lines (map (block_of version) (d ∷ ds)) name ≡ key_lines (map (block_of version) ds) name
  other_block d name ds other = rw other refl

  no_block : (d : Dialog) (ds : List Dialog) → AllByRecursion (Differ named_alike d) ds → key_lines (map (block_of version) ds) (dialog_name d) ≡ []
  no_block d [] apart = refl
  no_block d (e ∷ ds) apart = other_block e (dialog_name d) ds apart.0.1 ∙ no_block d ds apart.1

  own_block : (d : Dialog) (ds : List Dialog) → key_lines (map (block_of version) ds) (dialog_name d) ≡ [] → key_lines (map (block_of version) (d ∷ ds)) (dialog_name d) ≡ keys_of version d
  own_block d ds none = rw ((bytes_eq-Decides (dialog_name d) (dialog_name d)).1 refl, none) (append-nil (keys_of version d))

  abbrev HasKeys : List Dialog → Dialog → Type 0
  HasKeys ds d = key_lines (map (block_of version) ds) (dialog_name d) ≡ keys_of version d

  each_block : (ds : List Dialog) → is_apart named_alike ds ≡ true → AllByRecursion (HasKeys ds) ds
  each_block [] apart = tt
  each_block (d ∷ ds) apart =
      let split = and_parts (list_all (λ y. not (named_alike d y) && not (named_alike y d)) ds) (is_apart named_alike ds) apart in
      let others = all_differ named_alike d ds split.0 in (
        own_block d ds (no_block d ds others),
        both (Differ named_alike d) (HasKeys ds) (HasKeys (d ∷ ds)) (λ e differ later. other_block d (dialog_name e) ds differ.0 ∙ later) ds others (each_block ds split.1),
      )

  -- ---- the whole certificate

  tabs_made : (ds : List Dialog) → tab_lines (map (block_of version) ds) ≡ flat_map (λ dialog. map (λ name. (dialog_name dialog, name)) (tabs_of dialog)) ds
  tabs_made [] = refl
  tabs_made (d ∷ ds) = ap (λ tabs. map (λ name. (dialog_name d, name)) (tabs_of d) ++ tabs) (tabs_made ds)

  owners_named : (d : Dialog) → All (NamesOwner version (keys_of version d) d) letters
  owners_named d = All-from_recursion (NamesOwner version (keys_of version d) d) letters (each_named (owners_of version d) letters refl)

  owners_made : (ds : List Dialog) (d : Dialog) → HasKeys ds d → NamesOwners version (map (block_of version) ds) d
  owners_made ds d keys = subst (λ lines. All (NamesOwner version lines d) letters) (sym keys) (owners_named d)

differ_of : (a b : List ℕ) (t : Bool) → bytes_eq a b ≡ t → a ≢ b → t ≡ false
differ_of a b true e h = absurd (h ((bytes_eq-Decides a b).0 e))
differ_of a b false e h = refl

apart_of : (a b : List ℕ) → a ≢ b → (not (bytes_eq a b) && not (bytes_eq b a)) ≡ true
apart_of a b h = rw (differ_of a b (bytes_eq a b) refl h, differ_of b a (bytes_eq b a) refl (λ e. h (sym e))) refl

-- ---- names of dialogs

name_of_dialog : (kind : Kind) (is : IsTrue (is_dialog kind)) → name_of kind ≡ Some (dialog_head_of kind is).name
name_of_dialog (kinds.Dialog head) is = refl
name_of_dialog _ is = absurd (false≢true is)

-- what the first option names, the second names too
abbrev shares : Option (List ℕ) → Option (List ℕ) → Bool
shares None p = false
shares (Some name) p = is_option_named name p

shared : (o p : Option (List ℕ)) (name given : List ℕ) → o ≡ Some name → p ≡ Some given → given ≡ name → shares o p ≡ true
shared o p name given eo ep e = rw (eo, ep) ((bytes_eq-Decides given name).1 e)

same_share : (y x : Node) → shares (name_of y.kind) (name_of x.kind) ≡ shares_name y x
same_share y x = by (name_of y.kind) refl
  where
    by : (o : Option (List ℕ)) → name_of y.kind ≡ o → shares (name_of y.kind) (name_of x.kind) ≡ shares_name y x
    by None e = rw e refl
    by (Some name) e = rw e refl

names_differ : (x y : Dialog) → shares_name y.node x.node ≡ false → dialog_name x ≢ dialog_name y
names_differ x y e same =
    let both_named = shared (name_of y.node.kind) (name_of x.node.kind) (dialog_name y) (dialog_name x) (name_of_dialog y.node.kind y.own_kind) (name_of_dialog x.node.kind x.own_kind) same in
    absurd (true≢false (sym both_named ∙ same_share y.node x.node ∙ e))

-- among many, this one doesn't pass
not_this : (p : Dialog → Bool) (a b : List Dialog) (x : Dialog) → list_any p (a ++ x ∷ b) ≡ false → p x ≡ false
not_this p [] b x e = (or_parts (p x) (list_any p b) e).0
not_this p (y ∷ a) b x e = not_this p a b x (or_parts (p y) (list_any p (a ++ x ∷ b)) e).1

abbrev IsNewName : List Dialog × Dialog → Type 0
IsNewName pair = list_any (λ other. shares_name pair.1.node other.node) pair.0 ≡ false

-- no dialog after these has the name of this one
later_differ : (x : Dialog) (a b ds : List Dialog) → All IsNewName (after_seen (a ++ x ∷ b) ds) → list_all (λ y. not (named_alike x y) && not (named_alike y x)) ds ≡ true
later_differ x a b [] new = refl
later_differ x a b (y ∷ ds) new =
    let here = not_this (λ other. shares_name y.node other.node) a b x (All-head IsNewName (a ++ x ∷ b, y) (after_seen ((a ++ x ∷ b) ++ y ∷ []) ds) new) in
    let rest = All-tail IsNewName (a ++ x ∷ b, y) (after_seen ((a ++ x ∷ b) ++ y ∷ []) ds) new in
    let moved = subst (λ seen. All IsNewName (after_seen seen ds)) (append_assoc a (x ∷ b) (y ∷ [])) rest in
    rw (apart_of (dialog_name x) (dialog_name y) (names_differ x y here), later_differ x a (b ++ y ∷ []) ds moved) refl

names_apart : (seen ds : List Dialog) → All IsNewName (after_seen seen ds) → is_apart named_alike ds ≡ true
names_apart seen [] new = refl
names_apart seen (x ∷ ds) new =
    let rest = All-tail IsNewName (seen, x) (after_seen (seen ++ x ∷ []) ds) new in
    rw (later_differ x seen [] ds rest, names_apart (seen ++ x ∷ []) ds rest) refl

pub made_sound : (d : Desc) → All IsNewName (after_seen [] d.dialogs) → IsSoundCertificate d (certificate_of d)
made_sound d new = record {
  version = refl;
  tabs = tabs_made d.version d.dialogs;
  owners = All-weaker (HasKeys d.version d.dialogs) (NamesOwners d.version (certificate_of d).blocks) (λ dialog keys. owners_made d.version d.dialogs dialog keys) d.dialogs
      (All-from_recursion (HasKeys d.version d.dialogs) d.dialogs (each_block d.version d.dialogs (names_apart [] d.dialogs new)));
}
