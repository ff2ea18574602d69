-- The values of a group's fields, gathered one after the other.
use Rattle.std.proofs.Common.{◌≡◌, ℕ, Bool, true, false, ◌||◌, nat_lt, List, [], ◌∷◌, ◌++◌, ◌+◌, ◌<◌, ◌≤◌, ◌⊎◌, inl, inr, length, get_or, map, refl, sym, ap, ◌∙◌, arith, if◌then◌else◌, Option, Some, None}
use Rattle.std.specs.Option.{IsSome, is_some}
use Rattle.std.proofs.lemmas.Bool.Decides.{nat_tests}
use Rattle.tv_cells.specs.declared.rect.Rect.{Rect}
use Rattle.tv_model.specs.declared.node.Id.{Id}
use Rattle.tv_model.specs.declared.record.Value.{Value}
use Rattle.tv_view.specs.Meaning.{Leaf, Placed, inside, kept, uncurrent}
use Rattle.tv_model.specs.Log.Record.{Entries, value_of}
use Rattle.tv_view.specs.Calls.{HasRoom, HasRoomFor, gathered, with_field}
use Rattle.tv_group.specs.Calls.{HasRoomForAll, all_gathered, gathered_within, has_room}
use Rattle.tv_group.specs.Current.{is_at}
use Rattle.tv_group.specs.Opened.{opened, opened_member}
use Rattle.tv_group.specs.declared.group.MemberOf.{MemberOf}
use Rattle.tv_group.specs.declared.group.GroupOf.{GroupOf}
use Rattle.tv_group.specs.declared.group.MemberOf.TheVariants.{Leaf as LeafM, Pane as PaneM}
use Rattle.tv_group.proofs.OpenedLemmas.{member-leaf, member-pane}
use Rattle.tv_group.proofs.RestLemmas.{opened_from, opened_from-all, opened_from-step, opened_from-end}

-- ---- room

room-tested : {A : Type 0} (found : Option A) (n : ℕ) → (is_some found || nat_lt n 64) ≡ true → IsSome found ⊎ (n < 64)
room-tested (Some x) n h = inl refl
room-tested None n h = inr (grind (arith, nat_tests))

tested-room : {A : Type 0} (found : Option A) (n : ℕ) → IsSome found ⊎ (n < 64) → (is_some found || nat_lt n 64) ≡ true
tested-room (Some x) n h = refl
tested-room None n (inl no_value) = absurd cc
tested-room None n (inr h) = grind (arith, nat_tests)

room_for : (value : Option Value) (id : Id) (entries : Entries) → (is_some (value_of entries id.0) || nat_lt (length entries) 64) ≡ true → HasRoomFor value id entries
room_for None id entries h = tt
room_for (Some value) id entries h = room-tested (value_of entries id.0) (length entries) h

pub room-leaf : (leaf : Leaf) (entries : Entries) → has_room leaf entries ≡ true → HasRoom leaf entries
unfolding HasRoom
room-leaf leaf entries h = room_for leaf.value leaf.node.id entries h

filled : (value : Option Value) (id : Id) (entries : Entries) (b : Bool) → HasRoomFor value id entries → (IsSome (value_of entries id.0) ⊎ (length entries < 64) → b ≡ true)
    → (if b then with_field value id entries else entries) ≡ with_field value id entries
filled None id entries true room test = refl
filled None id entries false room test = refl
filled (Some value) id entries b room test = ap (λ d. if d then with_field (Some value) id entries else entries) (test room)

filled-leaf : (leaf : Leaf) (entries : Entries) → HasRoom leaf entries → (if has_room leaf entries then gathered leaf entries else entries) ≡ gathered leaf entries
unfolding HasRoom gathered
filled-leaf leaf entries room =
    filled leaf.value leaf.node.id entries (has_room leaf entries) room (tested-room (value_of entries leaf.node.id.0) (length entries))

-- where there is room for all fields, none is left out
pub gathered-all : (xs : List Placed) (entries : Entries) → HasRoomForAll xs entries → gathered_within xs entries ≡ all_gathered xs entries
gathered-all [] entries room = refl
gathered-all (x ∷ xs) entries room = ap (gathered_within xs) (filled-leaf x.leaf entries room.0) ∙ gathered-all xs (gathered x.leaf entries) room.1

-- ---- laws

gathered-append : (xs ys : List Placed) (entries : Entries) → gathered_within (xs ++ ys) entries ≡ gathered_within ys (gathered_within xs entries)
gathered-append [] ys entries = refl
gathered-append (x ∷ xs) ys entries = gathered-append xs ys (if has_room x.leaf entries then gathered x.leaf entries else entries)

gathered-inside : (r : Rect) (xs : List Placed) (entries : Entries) → gathered_within (map (inside r) xs) entries ≡ gathered_within xs entries
gathered-inside r [] entries = refl
gathered-inside r (x ∷ xs) entries = gathered-inside r xs (if has_room x.leaf entries then gathered x.leaf entries else entries)

gathered-unmarked : (xs : List Placed) (entries : Entries) → gathered_within (map uncurrent xs) entries ≡ gathered_within xs entries
gathered-unmarked [] entries = refl
gathered-unmarked (x ∷ xs) entries = gathered-unmarked xs (if has_room x.leaf entries then gathered x.leaf entries else entries)

gathered-kept : (b : Bool) (xs : List Placed) (entries : Entries) → gathered_within (kept b xs) entries ≡ gathered_within xs entries
gathered-kept true xs entries = refl
gathered-kept false xs entries = gathered-unmarked xs entries

-- ---- members one after the other

module _ {V : Type 0} (look : V → Leaf) where
  pub gathered-leaf : (m : MemberOf V) (v : V) (old new : Entries) → m ≡ LeafM v → new ≡ (if has_room (look v) old then gathered (look v) old else old)
      → new ≡ gathered_within (opened_member look m) old
  gathered-leaf m v old new is told = told ∙ ap (λ xs. gathered_within xs old) (sym (member-leaf look m v is))

  pub gathered-pane : (m : MemberOf V) (g : GroupOf V) (old new : Entries) → m ≡ PaneM g → new ≡ gathered_within (opened look g) old → new ≡ gathered_within (opened_member look m) old
  gathered-pane m g old new is told = told ∙ ap (λ xs. gathered_within xs old) (sym (member-pane look m g is))

  pub gathered-none : (g : GroupOf V) (entries : Entries) → gathered_within (opened look g) entries ≡ gathered_within (opened_from look g.current 0 g.members.items) entries
  gathered-none g entries =
      ap (λ xs. gathered_within xs entries) (opened_from-all look g) ∙ gathered-inside g.bounds (opened_from look g.current 0 g.members.items) entries

  pub gathered-next : (current : Option ℕ) (i : ℕ) (ms : List (MemberOf V)) (m : MemberOf V) (whole old new : Entries) → i < length ms → m ≡ get_or ms i m
      → whole ≡ gathered_within (opened_from look current i ms) old → new ≡ gathered_within (opened_member look m) old → whole ≡ gathered_within (opened_from look current (i + 1) ms) new
  gathered-next current i ms m whole old new h is was told =
      was ∙ ap (λ xs. gathered_within xs old) (opened_from-step look current i ms m h is)
      ∙ gathered-append (kept (is_at current i) (opened_member look m)) (opened_from look current (i + 1) ms) old
      ∙ ap (gathered_within (opened_from look current (i + 1) ms)) (gathered-kept (is_at current i) (opened_member look m) old ∙ sym told)

  pub gathered-end : (current : Option ℕ) (i : ℕ) (ms : List (MemberOf V)) (whole new : Entries) → length ms ≤ i
      → whole ≡ gathered_within (opened_from look current i ms) new → new ≡ whole
  gathered-end current i ms whole new h was = sym (was ∙ ap (λ xs. gathered_within xs new) (opened_from-end look current i ms h))
