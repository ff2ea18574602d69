-- The drawing of members one after the other.
use Rattle.std.proofs.Common.{◌≡◌, ℕ, true, false, List, [], ◌++◌, ◌+◌, ◌<◌, ◌≤◌, length, get_or, map, sym, ap, ◌∙◌, Option, arith}
use Rattle.tv_cells.specs.Picture.{Picture}
use Rattle.tv_cells.specs.Canvas.{sub}
use Rattle.tv_cells.specs.Rectangle.{IsEmpty}
use Rattle.tv_cells.specs.declared.canvas.Canvas.{Canvas}
use Rattle.tv_view.specs.Meaning.{Leaf, kept}
use Rattle.tv_view.specs.declared.env.Env.{Env}
use Rattle.tv_view.specs.Drawing.{is_near, leaf_layers, leaves_layers}
use Rattle.tv_cells.specs.Layers.{Lays}
use Rattle.tv_view.proofs.LayingLemmas.{lays_none, lays_then, lays_as, layers-kept, layers-append, layers-inside, layers-far}
use Rattle.tv_group.specs.Current.{is_at}
use Rattle.tv_group.specs.Opened.{opened, opened_member, joined}
use Rattle.tv_group.specs.declared.group.MemberOf.{MemberOf}
use Rattle.tv_group.specs.declared.group.GroupOf.{GroupOf}
use Rattle.tv_group.specs.declared.group.MemberOf.TheVariants.{Leaf as LeafM, Pane as PaneM}
use Rattle.tv_group.proofs.ClippingLemmas.{lays-clipped}
use Rattle.tv_group.proofs.OpenedLemmas.{opened_to, opened_to-none, opened_to-more, opened_to-whole, opened-members, member-leaf, member-pane}

module _ {V : Type 0} (look : V → Leaf) (env : Env) (c : Canvas) where
  pub drawn-none : (current : Option ℕ) (ms : List (MemberOf V)) (p : Picture) → Lays (leaves_layers env c (opened_to look current 0 ms)) p p
  drawn-none current ms p = lays_as [] (leaves_layers env c (opened_to look current 0 ms)) p p (ap (leaves_layers env c) (sym (opened_to-none look current ms))) (lays_none p)

  pub drawn-next : (current : Option ℕ) (i : ℕ) (ms : List (MemberOf V)) (m : MemberOf V) (old mid new : Picture) → i < length ms → m ≡ get_or ms i m
      → Lays (leaves_layers env c (opened_to look current i ms)) old mid → Lays (leaves_layers env c (opened_member look m)) mid new
      → Lays (leaves_layers env c (opened_to look current (i + 1) ms)) old new
  drawn-next current i ms m old mid new h is before here =
      lays_as (leaves_layers env c (opened_member look m) ++ leaves_layers env c (opened_to look current i ms)) (leaves_layers env c (opened_to look current (i + 1) ms)) old new
      (ap (λ t. t ++ leaves_layers env c (opened_to look current i ms)) (sym (layers-kept env c (is_at current i) (opened_member look m)))
      ∙ sym (layers-append env c (opened_to look current i ms) (kept (is_at current i) (opened_member look m)))
      ∙ ap (leaves_layers env c) (sym (opened_to-more look current i ms m h is)))
      (lays_then (leaves_layers env c (opened_to look current i ms)) (leaves_layers env c (opened_member look m)) old mid new before here)

  -- all members, inside the group's bounds
  pub drawn-whole : (g : GroupOf V) (i : ℕ) (inner : Canvas) (old new : Picture) → inner ≡ sub c g.bounds → is_near inner.origin ≡ true → length g.members.items ≤ i
      → Lays (leaves_layers env inner (opened_to look g.current i g.members.items)) old new → Lays (leaves_layers env c (opened look g)) old new
  drawn-whole g i inner old new is near h before =
      lays_as (leaves_layers env inner (opened_to look g.current i g.members.items)) (leaves_layers env c (opened look g)) old new
      (ap (λ d. leaves_layers env d (opened_to look g.current i g.members.items)) is
      ∙ sym (layers-inside env c g.bounds (opened_to look g.current i g.members.items) (ap (λ d. is_near d.origin) (sym is) ∙ near))
      ∙ ap (leaves_layers env c) (opened_to-whole look g i h)) before

  -- a group that lies too far away
  pub drawn-far : (g : GroupOf V) (inner : Canvas) (p : Picture) → inner ≡ sub c g.bounds → is_near inner.origin ≡ false → Lays (leaves_layers env c (opened look g)) p p
  drawn-far g inner p is far =
      lays_as [] (leaves_layers env c (opened look g)) p p
      (sym (ap (leaves_layers env c) (opened-members look g)
      ∙ layers-far env c g.bounds (joined g.current 0 (map (opened_member look) g.members.items)) (ap (λ d. is_near d.origin) (sym is) ∙ far))) (lays_none p)

  -- a group that misses the clip
  pub drawn-missed : (g : GroupOf V) (inner : Canvas) (p : Picture) → inner ≡ sub c g.bounds → is_near inner.origin ≡ true → IsEmpty inner.clip → Lays (leaves_layers env c (opened look g)) p p
  drawn-missed g inner p is near empty =
      let ms = g.members.items in
      drawn-whole g (length ms) inner p p is near (omega arith) (lays-clipped env inner (opened_to look g.current (length ms) ms) p empty)

  pub drawn-leaf : (m : MemberOf V) (v : V) (old new : Picture) → m ≡ LeafM v → Lays (leaf_layers env c (look v)) old new → Lays (leaves_layers env c (opened_member look m)) old new
  drawn-leaf m v old new is drawn =
      lays_as (leaf_layers env c (look v)) (leaves_layers env c (opened_member look m)) old new (ap (leaves_layers env c) (sym (member-leaf look m v is))) drawn

  pub drawn-pane : (m : MemberOf V) (g : GroupOf V) (old new : Picture) → m ≡ PaneM g → Lays (leaves_layers env c (opened look g)) old new → Lays (leaves_layers env c (opened_member look m)) old new
  drawn-pane m g old new is drawn =
      lays_as (leaves_layers env c (opened look g)) (leaves_layers env c (opened_member look m)) old new (ap (leaves_layers env c) (sym (member-pane look m g is))) drawn
