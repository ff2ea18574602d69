-- What the owners are that the views of a dialog give to a letter.
use Rattle.std.proofs.Common.{◌≡◌, ℕ, ◌+◌, ◌<◌, ◌≤◌, nat_le, nat_lt, Bool, true, false, ◌&&◌, cond, List, [], ◌∷◌, ◌++◌, filter, length, map, Option, Some, None, option_map, refl, arith}
use Rattle.std.specs.Prelude.{ℤ, pos, IfSome, filter_map, find, is_some, position, option_and_then, option_to_list}
use Rattle.std.specs.List.{AllByRecursion, cons_option}
use Rattle.std.proofs.lemmas.Bool.{and_parts, leb-true}
use Rattle.std.proofs.lemmas.List.Elements.{recursion_from_All}
use Rattle.std.proofs.lemmas.List.Quantifiers.{position-Some}
use Rattle.tv_model.specs.declared.node.Node.{Node}
use Rattle.tv_model.specs.declared.kind.MarkedText.{MarkedText}
use Rattle.tv_model.specs.declared.kind.Kind.{Kind}
use Rattle.tv_model.specs.declared.kind.Kind.TheVariants as kinds
use Rattle.tv_model.specs.declared.desc.Dialog.{Dialog}
use Rattle.tv_model.specs.declared.desc.Rule.{Rule}
use Rattle.tv_model.specs.declared.desc.Version.{Version}
use Rattle.tv_model.specs.declared.desc.Version.TheVariants as versions
use Rattle.tv_model.specs.declared.desc.When.{When}
use Rattle.tv_model.specs.Controls.Owner.{LetterOwner, control, item_at}
use Rattle.tv_model.specs.Description.Nodes.{name_of}
use Rattle.tv_model.specs.Description.Owners.{KeyOwner, always, marker_of, owner_by, owner_of, owner_shown, owners_at, owners_of, when_from}
use Rattle.tv_model.specs.Description.Sharing.{Marker, item_shown_by, marked_times, markers_of, may_share, separates, sharer_by, sharer_of, sharing_rules, shows_marker}
use Rattle.tv_model.specs.Description.Marks.{marks}
use Rattle.tv_model.specs.Faults.Limits.{is_lawful_count}
use Rattle.tv_model.specs.Faults.Lines.{after_seen}
use Rattle.tv_declarations.specs.Spelling.Nodes.{IsSpelledKind}
use Rattle.tv_words.specs.Fields.{IsName, IsNumber}
use Rattle.tv_certificate.specs.CertificateTexts.{IsWhen}
use Rattle.tv_faults.specs.Usable.{HasLawfulCounts}
use Rattle.tv_check.specs.Certificates.{FitsKeyLine, FitsOwner}
use Rattle.tv_check.proofs.DialogLemmas.{RuleItem, ViewKind}

-- what a view has that is found, each of them has
found_in : (Has : Node → Type 0) (p : Node → Bool) (b : Bool) (view : Node) (views : List Node) → Has view → IfSome (find p views) Has → IfSome (cond b (Some view) (find p views)) Has
found_in Has p true view views here later = here
found_in Has p false view views here later = later

found : (Has : Node → Type 0) (p : Node → Bool) (views : List Node) → AllByRecursion Has views → IfSome (find p views) Has
found Has p [] are = tt
found Has p (view ∷ views) are = found_in Has p (p view) view views are.0 (found Has p views are.1)

-- what each view has, each marker of a letter has
module _ (Has : Node → Type 0) (letter : ℕ) where
  abbrev marker_in : List Node × Node → Marker
  marker_in pair = record { before = pair.0; node = pair.1 }

  abbrev does_mark : List Node × Node → Bool
  does_mark pair = nat_lt 0 (marked_times letter pair.1)

  kept_in : (b : Bool) (pair : List Node × Node) (pairs : List (List Node × Node)) → Has pair.1 → AllByRecursion (λ (marker : Marker). Has marker.node) (map marker_in pairs) → AllByRecursion (λ (marker : Marker). Has marker.node) (map marker_in (cond b (pair ∷ pairs) pairs))
  kept_in true pair pairs here later = (here, later)
  kept_in false pair pairs here later = later

  markers_have : (seen views : List Node) → AllByRecursion Has views → AllByRecursion (λ (marker : Marker). Has marker.node) (map marker_in (filter does_mark (after_seen seen views)))
  markers_have seen [] are = tt
  markers_have seen (view ∷ views) are = kept_in (does_mark (seen, view)) (seen, view) (filter does_mark (after_seen (seen ++ view ∷ []) views)) are.0 (markers_have (seen ++ view ∷ []) views are.1)

-- what an owner is by every view that may give it, it is by the dialog
module _ (Q : Kind → Type 0) (P : LetterOwner → Type 0) (letter : ℕ) (each : (kind : Kind) → Q kind → IfSome (owner_by letter kind) P) where
  abbrev Has : Node → Type 0
  Has view = Q view.kind

  abbrev Owns : KeyOwner → Type 0
  Owns owner = P owner.owner

  given : (o : Option Node) → IfSome o Has → IfSome (option_and_then (λ node. owner_by letter node.kind) o) P
  given None is = tt
  given (Some view) is = each view.kind is

  in_list : (o : Option LetterOwner) → IfSome o P → AllByRecursion Owns (option_to_list (option_map always o))
  in_list None is = tt
  in_list (Some owner) is = (is, tt)

  module _ (when : Marker → Option When) where
    abbrev shown : Marker → Option KeyOwner
    shown marker = option_map (λ owner. record { owner = owner; when = when marker }) (owner_by letter marker.node.kind)

    one_more : (marker : Marker) (o : Option LetterOwner) (owners : List KeyOwner) → IfSome o P → AllByRecursion Owns owners
        → AllByRecursion Owns (cons_option (option_map (λ owner. record { owner = owner; when = when marker }) o) owners)
    one_more marker None owners is are = are
    one_more marker (Some owner) owners is are = (is, are)

    shown_have : (markers : List Marker) → AllByRecursion (λ (marker : Marker). Has marker.node) markers → AllByRecursion Owns (filter_map shown markers)
    shown_have [] are = tt
    shown_have (marker ∷ markers) are = one_more marker (owner_by letter marker.node.kind) (filter_map shown markers) (each marker.node.kind are.0) (shown_have markers are.1)

  at_have : (dialog : Dialog) (radios : Option Node) → AllByRecursion Has dialog.views → AllByRecursion Owns (owners_at dialog letter radios)
  at_have dialog None are = in_list (owner_of dialog letter) (given (marker_of dialog letter) (found Has (λ node. is_some (owner_by letter node.kind)) dialog.views are))
  at_have dialog (Some radios) are =
      shown_have (λ marker. when_from (name_of radios.kind) (item_shown_by dialog.views dialog.rules radios marker)) (markers_of dialog.views letter) (markers_have Has letter [] dialog.views are)

  owners_have : (version : Version) (dialog : Dialog) → AllByRecursion Has dialog.views → AllByRecursion Owns (owners_of version dialog letter)
  owners_have version dialog are = at_have dialog (sharer_by (sharing_rules version dialog.rules) dialog.views letter) are

owner_if : (P : LetterOwner → Type 0) (b : Bool) (owner : LetterOwner) → P owner → IfSome (cond b (Some owner) None) P
owner_if P true owner is = is
owner_if P false owner is = tt

item_if : (P : LetterOwner → Type 0) (name : List ℕ) (o : Option ℕ) → ((place : ℕ) → o ≡ Some place → P (item_at name place)) → IfSome (option_map (item_at name) o) P
item_if P name None each = tt
item_if P name (Some place) each = each place refl

-- ---- names

abbrev pub HasName : LetterOwner → Type 0
HasName owner = IsName owner.name

kind_named : (letter : ℕ) (kind : Kind) → IsSpelledKind kind → IfSome (owner_by letter kind) HasName
kind_named letter (kinds.Label label) own = owner_if HasName (marks letter label.text) (control label.link) own.1
kind_named letter (kinds.Button button) own = owner_if HasName (marks letter button.text) (control button.name) own.0
kind_named letter (kinds.CheckBoxes boxes) own = item_if HasName boxes.name (position (marks letter) boxes.items) (λ place e. own.0)
kind_named letter (kinds.RadioButtons radios) own = item_if HasName radios.name (position (marks letter) radios.items) (λ place e. own.0)
kind_named letter _ own = tt

abbrev pub IsNamed : KeyOwner → Type 0
IsNamed owner = HasName owner.owner

pub owners_named : (version : Version) (dialog : Dialog) (letter : ℕ) → AllByRecursion ViewKind dialog.views → AllByRecursion IsNamed (owners_of version dialog letter)
owners_named version dialog letter are = owners_have IsSpelledKind HasName letter (kind_named letter) version dialog are

-- ---- numbers of items

abbrev IsLawfulCount : Kind → Type 0
IsLawfulCount kind = is_lawful_count kind ≡ true

place_fits : (n : ℕ) (place : ℕ) → (nat_le 1 n && nat_le n 16) ≡ true → place < n → IsNumber (pos (place + 1))
place_fits n place lawful less =
    let high : n ≤ 16 = leb-true n 16 (and_parts (nat_le 1 n) (nat_le n 16) lawful).1 in
    record { sfits = omega arith }

no_item : MarkedText
no_item = record { text = []; mark = None }

item_fits : (letter : ℕ) (name : List ℕ) (items : List MarkedText) → (nat_le 1 (length items) && nat_le (length items) 16) ≡ true → IfSome (option_map (item_at name) (position (marks letter) items)) FitsKeyLine
item_fits letter name items lawful =
    item_if FitsKeyLine name (position (marks letter) items) (λ place e. place_fits (length items) place lawful (position-Some (marks letter) items place no_item e).0)

kind_fits : (letter : ℕ) (kind : Kind) → IsLawfulCount kind → IfSome (owner_by letter kind) FitsKeyLine
kind_fits letter (kinds.Label label) lawful = owner_if FitsKeyLine (marks letter label.text) (control label.link) tt
kind_fits letter (kinds.Button button) lawful = owner_if FitsKeyLine (marks letter button.text) (control button.name) tt
kind_fits letter (kinds.CheckBoxes boxes) lawful = item_fits letter boxes.name boxes.items lawful
kind_fits letter (kinds.RadioButtons radios) lawful = item_fits letter radios.name radios.items lawful
kind_fits letter _ lawful = tt

pub owners_fit : (version : Version) (dialog : Dialog) (letter : ℕ) → HasLawfulCounts dialog → AllByRecursion FitsOwner (owners_of version dialog letter)
owners_fit version dialog letter lawful = owners_have IsLawfulCount FitsKeyLine letter (kind_fits letter) version dialog (recursion_from_All (λ view. is_lawful_count view.kind ≡ true) dialog.views lawful)

-- ---- items of radio buttons

abbrev pub HasWhen : Version → KeyOwner → Type 0
HasWhen version owner = IfSome owner.when (IsWhen version)

kind_name : (kind : Kind) → IsSpelledKind kind → IfSome (name_of kind) IsName
kind_name (kinds.Button button) own = own.0
kind_name (kinds.CheckBoxes boxes) own = own.0
kind_name (kinds.RadioButtons radios) own = own.0
kind_name (kinds.Input input) own = own.0
kind_name (kinds.List list) own = own.0
kind_name (kinds.Dialog head) own = own.0
kind_name (kinds.Window head) own = own.0
kind_name (kinds.Pane pane) own = own.0
kind_name _ own = tt

ruled_in : (b : Bool) (rule : Rule) (found : Option Rule) → RuleItem rule → IfSome (option_map (λ rule. rule.item) found) IsNumber → IfSome (option_map (λ (one : Rule). one.item) (cond b (Some rule) found)) IsNumber
ruled_in true rule found here later = here
ruled_in false rule found here later = later

item_is_number : (p : Rule → Bool) (rules : List Rule) → AllByRecursion RuleItem rules → IfSome (option_map (λ (rule : Rule). rule.item) (find p rules)) IsNumber
item_is_number p [] are = tt
item_is_number p (rule ∷ rules) are = ruled_in (p rule) rule (find p rules) are.0 (item_is_number p rules are.1)

when_is : (name : Option (List ℕ)) (item : Option ℤ) → IfSome name IsName → IfSome item IsNumber → IfSome (when_from name item) (IsWhen versions.Two)
when_is None item is fits = tt
when_is (Some name) None is fits = tt
when_is (Some name) (Some item) is fits = record { allowed = refl; radios = is; item = fits }

module _ (dialog : Dialog) (letter : ℕ) where
  always_is : (version : Version) (o : Option LetterOwner) → AllByRecursion (HasWhen version) (option_to_list (option_map always o))
  always_is version None = tt
  always_is version (Some owner) = (tt, tt)

  module _ (rules : AllByRecursion RuleItem dialog.rules) where
    when_more : (when : Option When) (o : Option LetterOwner) (owners : List KeyOwner) → IfSome when (IsWhen versions.Two) → AllByRecursion (HasWhen versions.Two) owners
        → AllByRecursion (HasWhen versions.Two) (cons_option (option_map (λ owner. record { owner = owner; when = when }) o) owners)
    when_more when None owners is are = are
    when_more when (Some owner) owners is are = (is, are)

    each_when : (radios : Node) → IfSome (name_of radios.kind) IsName → (markers : List Marker) → AllByRecursion (HasWhen versions.Two) (filter_map (owner_shown dialog letter radios) markers)
    each_when radios name [] = tt
    each_when radios name (marker ∷ markers) =
        when_more (when_from (name_of radios.kind) (item_shown_by dialog.views dialog.rules radios marker)) (owner_by letter marker.node.kind) (filter_map (owner_shown dialog letter radios) markers)
        (when_is (name_of radios.kind) (item_shown_by dialog.views dialog.rules radios marker) name (item_is_number (shows_marker dialog.views radios marker) dialog.rules rules))
        (each_when radios name markers)

    at_when : (radios : Option Node) → IfSome radios ViewKind → AllByRecursion (HasWhen versions.Two) (owners_at dialog letter radios)
    at_when None is = always_is versions.Two (owner_of dialog letter)
    at_when (Some radios) is = each_when radios (kind_name radios.kind is) (markers_of dialog.views letter)

  shares_kind : (b : Bool) (o : Option Node) → IfSome o ViewKind → IfSome (cond b o None) ViewKind
  shares_kind true o is = is
  shares_kind false o is = tt

  sharer_kind : AllByRecursion ViewKind dialog.views → IfSome (sharer_of dialog.views dialog.rules letter) ViewKind
  sharer_kind are =
      shares_kind (may_share letter (markers_of dialog.views letter)) (find (separates dialog.views dialog.rules (markers_of dialog.views letter)) dialog.views)
      (found ViewKind (separates dialog.views dialog.rules (markers_of dialog.views letter)) dialog.views are)

pub owners_shown : (version : Version) (dialog : Dialog) (letter : ℕ) → AllByRecursion ViewKind dialog.views → AllByRecursion RuleItem dialog.rules → AllByRecursion (HasWhen version) (owners_of version dialog letter)
owners_shown versions.One dialog letter are rules = always_is dialog letter versions.One (owner_of dialog letter)
owners_shown versions.Two dialog letter are rules = at_when dialog letter rules (sharer_of dialog.views dialog.rules letter) (sharer_kind dialog letter are)
