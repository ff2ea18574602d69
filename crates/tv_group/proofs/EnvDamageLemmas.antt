-- What another environment damages of members one after the other.
use Rattle.std.proofs.Common.{◌≡◌, ℕ, List, [], ◌++◌, ◌+◌, ◌<◌, ◌≤◌, length, get_or, refl, sym, ap, ◌∙◌, Option}
use Rattle.tv_cells.specs.Damage.{Grows, HasWithin}
use Rattle.tv_cells.specs.Layers.{cell_over}
use Rattle.tv_cells.specs.declared.rect.Rect.{Rect}
use Rattle.tv_view.specs.Meaning.{Leaf, Placed, bounds_of, kept}
use Rattle.tv_view.specs.declared.env.Env.{Env}
use Rattle.tv_view.specs.Damage.{AllEnvDamages, AllEnvDrawn, EnvDamages}
use Rattle.tv_view.specs.Drawing.{leaves_layers}
use Rattle.tv_view.proofs.DamageLemmas.{alike-more, group-alike, whole-kept}
use Rattle.tv_view.proofs.LayingLemmas.{layers-kept}
use Rattle.tv_group.specs.Current.{is_at}
use Rattle.tv_group.specs.Opened.{opened, opened_member}
use Rattle.tv_group.specs.declared.group.MemberOf.{MemberOf}
use Rattle.tv_group.specs.declared.group.GroupOf.{GroupOf}
use Rattle.tv_group.specs.declared.group.MemberOf.TheVariants.{Leaf as LeafM, Pane as PaneM}
use Rattle.tv_group.proofs.DamageLemmas.{leaves-cell}
use Rattle.tv_group.proofs.OpenedLemmas.{opened_to, opened_to-none, opened_to-more, opened_to-whole, member-leaf, member-pane}

module _ (old new : Env) where
  env-drawn-none : (damage : List Rect) → AllEnvDrawn old new [] damage damage
  env-drawn-none damage = record { drawn = record { each = λ c column row e under. refl }; kept = λ x y e. e }

  env-drawn-is : (xs ys : List Placed) (before after : List Rect) → xs ≡ ys → AllEnvDrawn old new xs before after → AllEnvDrawn old new ys before after
  env-drawn-is xs ys before after e p = rw (← e) p

  -- leaves, and others over them
  env-drawn-then : (xs ys : List Placed) (first before after : List Rect) → AllEnvDrawn old new xs first before → AllEnvDrawn old new ys before after → AllEnvDrawn old new (xs ++ ys) first after
  env-drawn-then xs ys first before after was does = record {
    drawn = record {
      each = λ c column row e under.
          leaves-cell old c xs ys column row under
          ∙ does.drawn.each c column row e (cell_over (leaves_layers old c xs) column row under)
          ∙ ap (cell_over (leaves_layers new c ys) column row)
          ((alike-more before after (λ k. leaves_layers old k xs) (λ k. leaves_layers new k xs) does.kept was.drawn).each c column row e under)
          ∙ sym (leaves-cell new c xs ys column row under);
    };
    kept = λ x y e. does.kept x y (was.kept x y e);
  }

  env-drawn-kept : (at : Option ℕ) (i : ℕ) (xs : List Placed) (before after : List Rect) → AllEnvDrawn old new xs before after → AllEnvDrawn old new (kept (is_at at i) xs) before after
  env-drawn-kept at i xs before after p = record {
    drawn = record {
      each = λ c column row e under.
          ap (λ layers. cell_over layers column row under) (layers-kept old c (is_at at i) xs)
          ∙ p.drawn.each c column row e under
          ∙ sym (ap (λ layers. cell_over layers column row under) (layers-kept new c (is_at at i) xs));
    };
    kept = p.kept;
  }

  module _ {V : Type 0} (look : V → Leaf) where
    pub env-leaf : (m : MemberOf V) (v : V) (before after : List Rect) → m ≡ LeafM v → EnvDamages old new (look v) before after → AllEnvDrawn old new (opened_member look m) before after
    env-leaf m v before after is p = rw (member-leaf look m v is) (record { drawn = p.drawn; kept = whole-kept (bounds_of (look v)) before after p.added })

    pub env-pane : (m : MemberOf V) (g : GroupOf V) (bounds : Rect) (before after : List Rect) → m ≡ PaneM g → AllEnvDamages bounds old new (opened look g) before after
        → AllEnvDrawn old new (opened_member look m) before after
    env-pane m g bounds before after is p = rw (member-pane look m g is) (record { drawn = p.drawn; kept = p.grown.kept })

    pub env-init : (current : Option ℕ) (ms : List (MemberOf V)) (damage : List Rect) → AllEnvDrawn old new (opened_to look current 0 ms) damage damage
    env-init current ms damage = rw (opened_to-none look current ms) (env-drawn-none damage)

    pub env-next : (current : Option ℕ) (i : ℕ) (ms : List (MemberOf V)) (m : MemberOf V) (first before after : List Rect) → i < length ms → m ≡ get_or ms i m
        → AllEnvDrawn old new (opened_to look current i ms) first before → AllEnvDrawn old new (opened_member look m) before after
        → AllEnvDrawn old new (opened_to look current (i + 1) ms) first after
    env-next current i ms m first before after h is was does =
        env-drawn-is _ _ first after (sym (opened_to-more look current i ms m h is))
        (env-drawn-then (opened_to look current i ms) (kept (is_at current i) (opened_member look m)) first before after was
        (env-drawn-kept current i (opened_member look m) before after does))

    -- the group round the members
    pub env-done : (g : GroupOf V) (i : ℕ) (d inner first outer : List Rect) → length g.members.items ≤ i
        → AllEnvDrawn old new (opened_to look g.current i g.members.items) d inner → HasWithin g.bounds inner outer → Grows g.bounds first outer
        → AllEnvDamages g.bounds old new (opened look g) first outer
    env-done g i d inner first outer h drawn all grown = record {
      drawn = rw (sym (opened_to-whole look g i h))
          (group-alike old new g.bounds (opened_to look g.current i g.members.items) (opened_to look g.current i g.members.items) inner outer all drawn.drawn);
      grown = grown;
    }
