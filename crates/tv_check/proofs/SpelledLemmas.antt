-- The certificate that is made of a sound description can be spelled.
use Rattle.std.proofs.Common.{◌≡◌, ◌≢◌, ℕ, Bool, true, false, ◌&&◌, List, [], ◌∷◌, ◌++◌, map, filter_map, Option, Some, None, option_map, refl, ◌∙◌, arith}
use Rattle.std.specs.Prelude.{IsTrue, option_to_list}
use Rattle.std.specs.List.{AllByRecursion, list_all, list_any, cons_option}
use Rattle.std.proofs.lemmas.Bool.{and_parts, false≢true}
use Rattle.std.proofs.lemmas.Bool.Decides.{nat_tests}
use Rattle.std.proofs.lemmas.List.Folds.{list_all-append}
use Rattle.tv_model.specs.declared.node.Node.{Node}
use Rattle.tv_model.specs.declared.kind.Kind.{Kind}
use Rattle.tv_model.specs.declared.kind.Kind.TheVariants as kinds
use Rattle.tv_model.specs.declared.desc.Dialog.{Dialog}
use Rattle.tv_model.specs.declared.desc.Version.{Version}
use Rattle.tv_model.specs.declared.desc.Version.TheVariants as versions
use Rattle.tv_model.specs.Description.Nodes.{is_control, is_dialog}
use Rattle.tv_model.specs.Description.Heads.{dialog_head_of}
use Rattle.tv_model.specs.Controls.Owner.{LetterOwner}
use Rattle.tv_model.specs.Description.Owners.{KeyOwner, always, owner_of, owners_of}
use Rattle.tv_model.specs.Description.Certificates.{control_name, letters}
use Rattle.tv_declarations.specs.Spelling.Nodes.{IsSpelledKind}
use Rattle.tv_words.specs.Fields.{IsName}
use Rattle.tv_certificate.specs.declared.certificate.KeyLine.{KeyLine}
use Rattle.tv_check.specs.Certificates.{FitsOwner, block_of, key_line, keys_of}
use Rattle.tv_certificate.specs.CertificateTexts.{AreBlocks, LettersRise, IsBlock, IsKeyLine, is_letter, may_follow}
use Rattle.tv_faults.specs.Usable.{HasLawfulCounts}
use Rattle.tv_check.proofs.SoundLemmas.{lines_for}
use Rattle.tv_check.proofs.OwnerLemmas.{HasWhen, IsNamed, owners_fit, owners_named, owners_shown}
use Rattle.tv_check.proofs.DialogLemmas.{IsSpelledDialog, ViewKind}

-- ---- names

named_dialog : (kind : Kind) (is : IsTrue (is_dialog kind)) → IsSpelledKind kind → IsName (dialog_head_of kind is).name
named_dialog (kinds.Dialog head) is own = own.0
named_dialog _ is own = absurd (false≢true is)

named_tabs : (kind : Kind) (names : List (List ℕ)) → IsSpelledKind kind → AllByRecursion IsName names → AllByRecursion IsName (cons_option (control_name kind) names)
named_tabs (kinds.Button button) names own are = (own.0, are)
named_tabs (kinds.Input input) names own are = (own.0, are)
named_tabs (kinds.CheckBoxes boxes) names own are = (own.0, are)
named_tabs (kinds.RadioButtons radios) names own are = (own.0, are)
named_tabs (kinds.List list) names own are = (own.0, are)
named_tabs _ names own are = are

abbrev tabs_in : List Node → List (List ℕ)
tabs_in views = filter_map (λ node. control_name node.kind) views

tabs_named : (views : List Node) → AllByRecursion ViewKind views → AllByRecursion IsName (tabs_in views)
tabs_named [] are = tt
tabs_named (view ∷ views) are = named_tabs view.kind (tabs_in views) are.0 (tabs_named views are.1)

-- a control gives a tab line
no_tab : (kind : Kind) (names : List (List ℕ)) → cons_option (control_name kind) names ≡ [] → (is_control kind ≡ false) × (names ≡ [])
no_tab (kinds.Button button) names e = cc
no_tab (kinds.Input input) names e = cc
no_tab (kinds.CheckBoxes boxes) names e = cc
no_tab (kinds.RadioButtons radios) names e = cc
no_tab (kinds.List list) names e = cc
no_tab _ names e = (refl, e)

no_control : (views : List Node) → tabs_in views ≡ [] → list_any (λ node. is_control node.kind) views ≡ false
no_control [] e = refl
no_control (view ∷ views) e = let h = no_tab view.kind (tabs_in views) e in rw (h.0, no_control views h.1) refl

some_tabs : (views : List Node) → list_any (λ node. is_control node.kind) views ≡ true → tabs_in views ≢ []
some_tabs views some e = let none = no_control views e in absurd cc

-- ---- key lines

module _ (version : Version) (owners : ℕ → List KeyOwner) (named : (letter : ℕ) → AllByRecursion IsNamed (owners letter)) (fits : (letter : ℕ) → AllByRecursion FitsOwner (owners letter))
    (shown : (letter : ℕ) → AllByRecursion (HasWhen version) (owners letter)) where
  lines_of_letter : (letter : ℕ) (os : List KeyOwner) (lines : List KeyLine) → IsTrue (is_letter letter) → AllByRecursion IsNamed os → AllByRecursion FitsOwner os → AllByRecursion (HasWhen version) os
      → AllByRecursion (IsKeyLine version) lines → AllByRecursion (IsKeyLine version) (map (key_line letter) os ++ lines)
  lines_of_letter letter [] lines is have fit show are = are
  lines_of_letter letter (o ∷ os) lines is have fit show are =
      (record { letter = is; owner = have.0; item = fit.0; when = show.0 }, lines_of_letter letter os lines is have.1 fit.1 show.1 are)

  each_line : (ls : List ℕ) → list_all is_letter ls ≡ true → AllByRecursion (IsKeyLine version) (lines_for owners ls)
  each_line [] e = tt
  each_line (l ∷ ls) e =
      let h = and_parts (is_letter l) (list_all is_letter ls) e in
      lines_of_letter l (owners l) (lines_for owners ls) h.0 (named l) (fits l) (shown l) (each_line ls h.1)

module _ (version : Version) where
  -- each letter may come before those after it
  abbrev is_sorted : List ℕ → Bool
  is_sorted [] = true
  is_sorted (l ∷ ls) = list_all (may_follow version l) ls && is_sorted ls

  -- the letter may come after the key lines
  abbrev is_next : List KeyLine → ℕ → Bool
  is_next before letter = list_all (λ earlier. may_follow version earlier.letter letter) before

  next_more : (before : List KeyLine) (line : KeyLine) (letter : ℕ) → is_next before letter ≡ true → may_follow version line.letter letter ≡ true → is_next (before ++ line ∷ []) letter ≡ true
  next_more before line letter e f = list_all-append (λ earlier. may_follow version earlier.letter letter) before (line ∷ []) ∙ rw (e, f) refl

  each_next : (before : List KeyLine) (line : KeyLine) (ls : List ℕ) → list_all (is_next before) ls ≡ true → list_all (may_follow version line.letter) ls ≡ true → list_all (is_next (before ++ line ∷ [])) ls ≡ true
  each_next before line [] e f = refl
  each_next before line (l ∷ ls) e f =
      let h = and_parts (is_next before l) (list_all (is_next before) ls) e in
      let k = and_parts (may_follow version line.letter l) (list_all (may_follow version line.letter) ls) f in
      rw (next_more before line l h.0 k.0, each_next before line ls h.1 k.1) refl

  -- each letter with several owners may come after itself
  abbrev MayRepeat : ℕ → List KeyOwner → Type 0
  MayRepeat letter [] = Unit {0}
  MayRepeat letter (owner ∷ []) = Unit {0}
  MayRepeat letter (owner ∷ other ∷ others) = may_follow version letter letter ≡ true

  module _ (owners : ℕ → List KeyOwner) (repeat : (letter : ℕ) → MayRepeat letter (owners letter)) where
    -- what comes after lines that all these letters may come after
    abbrev Rises : List ℕ → List KeyLine → Type 0
    Rises ls lines = (before : List KeyLine) → list_all (is_next before) ls ≡ true → LettersRise version before lines

    again : (letter : ℕ) (os : List KeyOwner) (ls : List ℕ) (lines : List KeyLine) → may_follow version letter letter ≡ true → list_all (may_follow version letter) ls ≡ true → Rises ls lines
        → (before : List KeyLine) → is_next before letter ≡ true → list_all (is_next before) ls ≡ true → LettersRise version before (map (key_line letter) os ++ lines)
    again letter [] ls lines self later rest before here all = rest before all
    again letter (o ∷ os) ls lines self later rest before here all =
        let line = key_line letter o in
        (here, again letter os ls lines self later rest (before ++ line ∷ []) (next_more before line letter here self) (each_next before line ls all later))

    first : (letter : ℕ) (os : List KeyOwner) (ls : List ℕ) (lines : List KeyLine) → MayRepeat letter os → list_all (may_follow version letter) ls ≡ true → Rises ls lines
        → (before : List KeyLine) → is_next before letter ≡ true → list_all (is_next before) ls ≡ true → LettersRise version before (map (key_line letter) os ++ lines)
    first letter [] ls lines may later rest before here all = rest before all
    first letter (o ∷ []) ls lines may later rest before here all = (here, rest (before ++ key_line letter o ∷ []) (each_next before (key_line letter o) ls all later))
    first letter (o ∷ p ∷ os) ls lines may later rest before here all = again letter (o ∷ p ∷ os) ls lines may later rest before here all

    lines_rise : (ls : List ℕ) → is_sorted ls ≡ true → Rises ls (lines_for owners ls)
    lines_rise [] sorted before e = tt
    lines_rise (l ∷ ls) sorted before e =
        let s = and_parts (list_all (may_follow version l) ls) (is_sorted ls) sorted in
        let h = and_parts (is_next before l) (list_all (is_next before) ls) e in
        first l (owners l) ls (lines_for owners ls) (repeat l) s.0 (λ seen next. lines_rise ls s.1 seen next) before h.0 h.1

one_repeats : (letter : ℕ) (o : Option LetterOwner) → MayRepeat versions.One letter (option_to_list (option_map always o))
one_repeats letter None = tt
one_repeats letter (Some owner) = tt

all_repeat : (letter : ℕ) (os : List KeyOwner) → MayRepeat versions.Two letter os
all_repeat letter [] = tt
all_repeat letter (o ∷ []) = tt
all_repeat letter (o ∷ p ∷ os) = grind (arith, nat_tests)

keys_rise : (version : Version) (dialog : Dialog) → LettersRise version [] (keys_of version dialog)
keys_rise versions.One dialog = lines_rise versions.One (owners_of versions.One dialog) (λ letter. one_repeats letter (owner_of dialog letter)) letters refl [] refl
keys_rise versions.Two dialog = lines_rise versions.Two (owners_of versions.Two dialog) (λ letter. all_repeat letter (owners_of versions.Two dialog letter)) letters refl [] refl

-- ---- the certificate

pub record IsReady (dialog : Dialog) : Type 0 where
  pub spelled : IsSpelledDialog dialog
  pub lawful : HasLawfulCounts dialog
  pub control : list_any (λ node. is_control node.kind) dialog.views ≡ true

module _ (version : Version) where
  block_spelled : (dialog : Dialog) → IsReady dialog → IsBlock version (block_of version dialog)
  block_spelled dialog ready =
      record {
        dialog = named_dialog dialog.node.kind dialog.own_kind ready.spelled.own;
        some = some_tabs dialog.views ready.control;
        tabs = tabs_named dialog.views ready.spelled.views;
        keys = each_line version (owners_of version dialog) (λ letter. owners_named version dialog letter ready.spelled.views) (λ letter. owners_fit version dialog letter ready.lawful)
            (λ letter. owners_shown version dialog letter ready.spelled.views ready.spelled.rules) letters refl;
        rising = keys_rise version dialog;
      }

  pub certificate_spelled : (dialogs : List Dialog) → AllByRecursion IsReady dialogs → AreBlocks version (map (block_of version) dialogs)
  certificate_spelled [] ready = tt
  certificate_spelled (dialog ∷ dialogs) ready = (block_spelled dialog ready.0, certificate_spelled dialogs ready.1)
