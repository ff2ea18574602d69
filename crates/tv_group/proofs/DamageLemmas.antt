-- The damage of members one after the other.
use Rattle.std.proofs.Common.{◌≡◌, ℕ, Bool, List, [], ◌∷◌, ◌++◌, ◌+◌, ◌<◌, ◌≤◌, length, get_or, map, set, take, refl, sym, ap, ◌∙◌, append_assoc, inl, Option}
use Rattle.std.proofs.lemmas.List.{append-nil, take_all, with_items_is}
use Rattle.std.specs.Vec.{with_items}
use Rattle.tv_cells.specs.Damage.{Grows, HasWithin}
use Rattle.tv_cells.specs.Glyph.{Glyph}
use Rattle.tv_cells.specs.Layers.{cell_over}
use Rattle.tv_cells.specs.declared.canvas.Canvas.{Canvas}
use Rattle.tv_cells.specs.declared.rect.Rect.{Rect}
use Rattle.tv_cells.proofs.RepaintingLemmas.{over-append}
use Rattle.tv_view.specs.Meaning.{Leaf, Placed, bounds_of, inside, kept}
use Rattle.tv_view.specs.declared.env.Env.{Env}
use Rattle.tv_view.specs.Damage.{AllDamages, AllDrawn, Damages}
use Rattle.tv_view.specs.Drawing.{leaves_layers}
use Rattle.tv_view.proofs.DamageLemmas.{alike-more, group-alike, whole-kept}
use Rattle.tv_view.proofs.LayingLemmas.{layers-append, layers-kept}
use Rattle.tv_group.specs.Current.{is_at}
use Rattle.tv_group.specs.Opened.{opened, opened_member, joined}
use Rattle.tv_group.specs.declared.group.MemberOf.{MemberOf}
use Rattle.tv_group.specs.declared.group.GroupOf.{GroupOf, roll-GroupOf}
use Rattle.tv_group.specs.declared.group.MemberOf.TheVariants.{Leaf as LeafM, Pane as PaneM}
use Rattle.tv_group.proofs.OpenedLemmas.{opened_to, opened_to-none, opened_to-next, opened-rolled, opened_member-leaf, opened_member-pane}
use Rattle.tv_group.proofs.MembersLemmas.{leaves_of, leaves-split, leaves-written, opened-leaves}
use Rattle.tv_group.proofs.MembersLemmas as members
use Rattle.tv_group.proofs.RestLemmas.{opened_from, opened_from-all, opened_from-end, opened_from-step, opened_from-written}

-- leaves one after the other: the later ones are painted over the others
pub leaves-cell : (env : Env) (c : Canvas) (xs ys : List Placed) (column row : ℕ) (under : Glyph)
    → cell_over (leaves_layers env c (xs ++ ys)) column row under ≡ cell_over (leaves_layers env c ys) column row (cell_over (leaves_layers env c xs) column row under)
leaves-cell env c xs ys column row under =
    ap (λ layers. cell_over layers column row under) (layers-append env c xs ys) ∙ over-append (leaves_layers env c ys) (leaves_layers env c xs) column row under

kept-cell : (env : Env) (c : Canvas) (b : Bool) (xs : List Placed) (column row : ℕ) (under : Glyph)
    → cell_over (leaves_layers env c (kept b xs)) column row under ≡ cell_over (leaves_layers env c xs) column row under
kept-cell env c b xs column row under = ap (λ layers. cell_over layers column row under) (layers-kept env c b xs)

pub all-drawn-refl : (xs : List Placed) (damage : List Rect) → AllDrawn xs xs damage damage
all-drawn-refl xs damage = record { drawn = λ env. record { each = λ c column row e under. refl }; kept = λ x y e. e }

-- a part in the middle changes
pub all-drawn-part : (whole front back part other : List Placed) (b d : Bool) (first before after : List Rect)
    → AllDrawn whole (front ++ (kept b part ++ back)) first before → AllDrawn part other before after → AllDrawn whole ((front ++ kept d other) ++ back) first after
all-drawn-part whole front back part other b d first before after was does = record {
  drawn = λ env. record {
    each = λ c column row e under.
        (alike-more before after (λ k. leaves_layers env k whole) (λ k. leaves_layers env k (front ++ (kept b part ++ back))) does.kept (was.drawn env)).each c column row e under
        ∙ leaves-cell env c front (kept b part ++ back) column row under
        ∙ leaves-cell env c (kept b part) back column row (cell_over (leaves_layers env c front) column row under)
        ∙ ap (cell_over (leaves_layers env c back) column row)
        (kept-cell env c b part column row (cell_over (leaves_layers env c front) column row under)
        ∙ (does.drawn env).each c column row e (cell_over (leaves_layers env c front) column row under)
        ∙ sym (kept-cell env c d other column row (cell_over (leaves_layers env c front) column row under)))
        ∙ sym (leaves-cell env c (front ++ kept d other) back column row under
        ∙ ap (cell_over (leaves_layers env c back) column row) (leaves-cell env c front (kept d other) column row under));
  };
  kept = λ x y e. does.kept x y (was.kept x y e);
}

all-drawn-is : (xs ys zs : List Placed) (before after : List Rect) → ys ≡ zs → AllDrawn xs ys before after → AllDrawn xs zs before after
all-drawn-is xs ys zs before after e p = rw (← e) p

module _ {V : Type 0} (look : V → Leaf) where
  pub drawn-member-leaf : (v w : V) (before after : List Rect) → Damages (look v) (look w) before after → AllDrawn (opened_member look (LeafM v)) (opened_member look (LeafM w)) before after
  drawn-member-leaf v w before after p =
      rw (opened_member-leaf look v, opened_member-leaf look w) (record { drawn = λ env. p.drawn env; kept = whole-kept (bounds_of (look v)) before after p.added })

  pub drawn-member-pane : (g h : GroupOf V) (bounds : Rect) (before after : List Rect) → AllDamages bounds (opened look g) (opened look h) before after
      → AllDrawn (opened_member look (PaneM g)) (opened_member look (PaneM h)) before after
  drawn-member-pane g h bounds before after p =
      rw (opened_member-pane look g, opened_member-pane look h) (record { drawn = p.drawn; kept = p.grown.kept })

  -- which member is current doesn't show
  marks-unseen : (env : Env) (c : Canvas) (a b : Option ℕ) (k : ℕ) (xss : List (List Placed)) → leaves_layers env c (joined a k xss) ≡ leaves_layers env c (joined b k xss)
  marks-unseen env c a b k [] = refl
  marks-unseen env c a b k (xs ∷ xss) =
      layers-append env c (kept (is_at a k) xs) (joined a (k + 1) xss)
      ∙ ap (λ layers. layers ++ leaves_layers env c (kept (is_at a k) xs)) (marks-unseen env c a b (k + 1) xss)
      ∙ ap (λ layers. leaves_layers env c (joined b (k + 1) xss) ++ layers) (layers-kept env c (is_at a k) xs ∙ sym (layers-kept env c (is_at b k) xs))
      ∙ sym (layers-append env c (kept (is_at b k) xs) (joined b (k + 1) xss))

  pub damage-marked : (a b : Option ℕ) (i : ℕ) (ms : List (MemberOf V)) (back whole : List Placed) (before after : List Rect)
      → AllDrawn whole (opened_to look a i ms ++ back) before after → AllDrawn whole (opened_to look b i ms ++ back) before after
  unfolding opened_to
  damage-marked a b i ms back whole before after was = record {
    drawn = λ env. record {
      each = λ c column row e under.
          (was.drawn env).each c column row e under
          ∙ ap (λ layers. cell_over layers column row under)
          (layers-append env c (opened_to look a i ms) back
          ∙ ap (λ layers. leaves_layers env c back ++ layers) (marks-unseen env c a b 0 (map (opened_member look) (take i ms)))
          ∙ sym (layers-append env c (opened_to look b i ms) back));
    };
    kept = was.kept;
  }

  module _ (before after : Option ℕ) where
    pub damage-init : (ms xs : List (MemberOf V)) (damage : List Rect) → xs ≡ ms
        → AllDrawn (opened_from look before 0 ms) (opened_to look after 0 xs ++ opened_from look before 0 xs) damage damage
    damage-init ms xs damage same = rw (same, opened_to-none look after ms) (all-drawn-refl (opened_from look before 0 ms) damage)

    pub damage-next : (i : ℕ) (ms : List (MemberOf V)) (m m' : MemberOf V) (whole : List Placed) (first d d' : List Rect) → i < length ms → m ≡ get_or ms i m
        → AllDrawn (opened_member look m) (opened_member look m') d d'
        → AllDrawn whole (opened_to look after i ms ++ opened_from look before i ms) first d
        → AllDrawn whole (opened_to look after (i + 1) (set ms i m') ++ opened_from look before (i + 1) (set ms i m')) first d'
    damage-next i ms m m' whole first d d' h is does was =
        let step = opened_from-step look before i ms m h is in
        let mid = all-drawn-is whole _ _ first d (ap (λ t. opened_to look after i ms ++ t) step) was in
        let next = all-drawn-part whole (opened_to look after i ms) (opened_from look before (i + 1) ms) (opened_member look m) (opened_member look m') (is_at before i) (is_at after i) first d d' mid does in
        all-drawn-is whole _ _ first d'
        (ap (λ t. t ++ opened_from look before (i + 1) ms) (sym (opened_to-next look after i ms m' h))
        ∙ ap (λ t. opened_to look after (i + 1) (set ms i m') ++ t) (sym (opened_from-written look before i ms m'))) next

  -- the group with its members changed, inside its bounds
  pub damage-done : (after : Option ℕ) (g : GroupOf V) (i : ℕ) (ms : List (MemberOf V)) (inner outer first : List Rect)
      → length ms ≡ length g.members.items → length ms ≤ i
      → AllDrawn (opened_from look g.current 0 g.members.items) (opened_to look after i ms ++ opened_from look g.current i ms) [] inner
      → HasWithin g.bounds inner outer → Grows g.bounds first outer
      → AllDamages g.bounds (opened look g) (opened look (roll-GroupOf V (record { level = g.level; bounds = g.bounds; members = with_items g.members ms; current = after }))) first outer
  unfolding opened_to
  damage-done after g i ms inner outer first same h was all grown =
      let olds = opened_from-all look g in
      let news =
      opened-rolled look (record { level = g.level; bounds = g.bounds; members = with_items g.members ms; current = after })
      ∙ ap (λ l. map (inside g.bounds) (joined after 0 (map (opened_member look) l))) (with_items_is g.members ms (same ∙ sym g.members.ok.0) ∙ sym (take_all i ms h)) in
      let end = ap (λ t. opened_to look after i ms ++ t) (opened_from-end look g.current i ms h) ∙ append-nil (opened_to look after i ms) in
      record {
        drawn = λ env. rw (olds, news)
            (group-alike env env g.bounds (opened_from look g.current 0 g.members.items) (opened_to look after i ms) inner outer all
            ((all-drawn-is _ _ _ [] inner end was).drawn env));
        grown = grown;
      }

  -- ---- one member alone changes

  pub damage-one : (current : Option ℕ) (i : ℕ) (ms : List (MemberOf V)) (m m' : MemberOf V) (whole : List Placed) (d d' : List Rect) → i < length ms → leaves_of look current ms ≡ whole
      → AllDrawn (opened_member look (get_or ms i m)) (opened_member look m') d d' → AllDrawn whole (leaves_of look current (set ms i m')) d d'
  damage-one current i ms m m' whole d d' h same does =
      let front = opened_to look current i ms in
      let back = members.opened_from look current (i + 1) ms in
      let part = opened_member look (get_or ms i m) in
      let was = all-drawn-is whole whole (front ++ (kept (is_at current i) part ++ back)) d d (sym same ∙ leaves-split look current i ms m h) (all-drawn-refl whole d) in
      let next = all-drawn-part whole front back part (opened_member look m') (is_at current i) (is_at current i) d d d' was does in
      all-drawn-is whole ((front ++ kept (is_at current i) (opened_member look m')) ++ back) (leaves_of look current (set ms i m')) d d'
      (append_assoc front (kept (is_at current i) (opened_member look m')) back ∙ sym (leaves-written look current i ms m' h)) next

  -- the group round the members
  pub damage-group : (g new : GroupOf V) (d inner first outer : List Rect) → new.bounds ≡ g.bounds
      → AllDrawn (leaves_of look g.current g.members.items) (leaves_of look new.current new.members.items) d inner → HasWithin g.bounds inner outer → Grows g.bounds first outer
      → AllDamages g.bounds (opened look g) (opened look new) first outer
  damage-group g new d inner first outer bounds drawn all grown = record {
    drawn = λ env. rw (opened-leaves look g, opened-leaves look new, bounds)
        (group-alike env env g.bounds (leaves_of look g.current g.members.items) (leaves_of look new.current new.members.items) inner outer all (drawn.drawn env));
    grown = grown;
  }

  -- no member changes
  pub damage-still : (g new : GroupOf V) (damage : List Rect) → new.bounds ≡ g.bounds → leaves_of look new.current new.members.items ≡ leaves_of look g.current g.members.items
      → AllDamages g.bounds (opened look g) (opened look new) damage damage
  damage-still g new damage bounds same = record {
    drawn = λ env. record {
      each = λ c column row e under.
          ap (λ xs. cell_over (leaves_layers env c xs) column row under)
          (opened-leaves look g ∙ ap (map (inside g.bounds)) (sym same) ∙ ap (λ b. map (inside b) (leaves_of look new.current new.members.items)) (sym bounds) ∙ sym (opened-leaves look new));
    };
    grown = record { kept = λ x y e. e; within = λ r h p. h };
  }

-- a leaf that stays
pub damages-refl : (leaf : Leaf) (damage : List Rect) → Damages leaf leaf damage damage
damages-refl leaf damage = record { drawn = λ env. record { each = λ c column row e under. refl }; added = inl refl }
