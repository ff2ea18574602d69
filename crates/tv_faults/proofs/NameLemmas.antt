-- What the want of faults of names says, and of places: F1, F2, F3 and F6.
use Rattle.std.proofs.Common.{◌≡◌, ◌↔◌, ℕ, Bool, false, not, ◌&&◌, Decides, IsTrue, ◌||◌, List, [], map, Option, Some, None, refl, sym, ap, subst, ◌∙◌}
use Rattle.std.specs.List.{All, AllPairs, list_any}
use Rattle.std.specs.Str.{bytes_eq}
use Rattle.std.proofs.lemmas.Bool.{false≢true, false_from_ne_true}
use Rattle.std.proofs.lemmas.Bool.Decides.{Decides-and, Decides-or}
use Rattle.std.proofs.lemmas.Slice.Eq.{bytes_eq-Decides}
use Rattle.tv_cells.specs.declared.rect.Rect.{Rect}
use Rattle.tv_model.specs.declared.node.Node.{Node}
use Rattle.tv_model.specs.declared.kind.Kind.{Kind}
use Rattle.tv_model.specs.declared.kind.Kind.TheVariants as kinds
use Rattle.tv_model.specs.declared.desc.Desc.{Desc}
use Rattle.tv_model.specs.declared.desc.Window.{Window}
use Rattle.tv_model.specs.declared.desc.Dialog.{Dialog}
use Rattle.tv_model.specs.declared.fault.FaultKind.TheVariants as faults
use Rattle.tv_model.specs.Description.Names.{gives_name, is_control_option, is_option_named, meant, shares_name}
use Rattle.tv_model.specs.Description.Nodes.{is_control, is_pane, name_of}
use Rattle.tv_model.specs.Description.Panes.{earlier_siblings, owner_of, room_in}
use Rattle.tv_model.specs.Description.Rectangles.{desktop, is_within, overlap, place_of_node}
use Rattle.tv_model.specs.Faults.{dialog_has, window_has}
use Rattle.tv_model.specs.Faults.Lines.{after_seen}
use Rattle.tv_model.specs.Faults.Names.{dialog_named_again, links_nothing}
use Rattle.tv_model.specs.Faults.Places.{is_off_desktop, is_outside, need_own_places, overlaps_earlier}
use Rattle.tv_faults.specs.Sound.Bodies.{Body, bodies_of}
use Rattle.tv_faults.specs.Sound.Names.{AreLabelsLinked, HasName, HaveOtherNames, HaveOwnNames, IsLinked, frames_of}
use Rattle.tv_faults.specs.Sound.Places.{AreApart, AreInside, ArePlacedWell, AreViewsApart, IsApartFrom, IsPartOf, NeedOwnPlaces}
use Rattle.tv_faults.proofs.ExcludeLemmas.{Excludes, again_excludes, and_excludes, any_excludes, not_excludes, or_excludes}
use Rattle.tv_faults.proofs.LackLemmas.{Lacks, NoView, NoneAfter}
use Rattle.tv_faults.proofs.PairLemmas.{Across, after_each, after_own, all_and, all_map, all_swap, both, chain, each, pairs_append, pairs_map}
use Rattle.tv_overlaps.proofs.AreaLemmas.{overlap_points, within_points}

-- ---- what is found under a name

named : (name : List ℕ) (own : Option (List ℕ)) → Decides (is_option_named name own) (own ≡ Some name)
named name None = (λ e. absurd (false≢true e), λ e. absurd cc)
named name (Some other) = let same : Decides (bytes_eq other name) (other ≡ name) = bytes_eq-Decides other name in
    (λ e. ap Some (same.0 e), λ e. let one : other ≡ name = cc in same.1 one)

pub gives_decides : (name : List ℕ) (node : Node) → Decides (gives_name name node) (HasName node name)
gives_decides name node = named name (name_of node.kind)

-- a test of what may be there
pub option_decides : {A : Type 0} (test : Option A → Bool) (p : A → Bool) (P : A → Type 0) → test None ≡ false → ((x : A) → test (Some x) ≡ p x) → ((x : A) → Decides (p x) (P x))
    → (o : Option A) → Decides (test o) ((x : A) × (o ≡ Some x) × P x)
option_decides test p P none some decides None = (λ e. absurd (false≢true (sym none ∙ e)), λ h. let e = h.1 in absurd cc)
option_decides test p P none some decides (Some x) = (
  λ e. (x, refl, (decides x).0 (sym (some x) ∙ e)),
  λ h. let e : Some x ≡ Some h.0 = h.1 in let same : h.0 ≡ x = cc in some x ∙ (decides x).1 (subst P same h.2),
)

-- ---- F1

shares_excludes : (node other : Node) → Excludes (shares_name node other) (HaveOtherNames other node)
shares_excludes node other = at (name_of node.kind) refl
  where
    at : (own : Option (List ℕ)) → name_of node.kind ≡ own → Excludes (shares_name node other) (HaveOtherNames other node)
    at None e = (λ f name has own. absurd cc, λ h. rw e refl)
    at (Some given) e = (
      λ f name has own. let g : gives_name given other ≡ false = rw e at f in
          let same : name ≡ given = cc in
          false≢true (sym g ∙ (gives_decides given other).1 (has ∙ ap Some same)),
      λ h. rw e (false_from_ne_true (gives_name given other) (λ t. h given ((gives_decides given other).0 t) e)),
    )

-- windows against windows, dialogs against windows and dialogs
frames_iff : (d : Desc) → (NoneAfter (window_has faults.NameTwice) d.windows × NoneAfter (dialog_has faults.NameTwice d) d.dialogs) ↔ AllPairs HaveOtherNames (frames_of d)
frames_iff d =
    let own : Window → Node = λ window. window.node in
    let at : Dialog → Node = λ dialog. dialog.node in
    let windows : NoneAfter (window_has faults.NameTwice) d.windows ↔ AllPairs (λ x y. HaveOtherNames (own x) (own y)) d.windows =
    again_excludes (λ window other. shares_name (own window) (own other)) (λ x y. HaveOtherNames (own x) (own y)) (λ window other. shares_excludes (own window) (own other)) d.windows in
    let apart : (dialog : Dialog) → Excludes (list_any (λ window. shares_name (at dialog) (own window)) d.windows) (All (λ window. HaveOtherNames (own window) (at dialog)) d.windows) =
    λ dialog. any_excludes (λ window. shares_name (at dialog) (own window)) (λ window. HaveOtherNames (own window) (at dialog)) (λ window. shares_excludes (at dialog) (own window)) d.windows in
    let again : (pair : List Dialog × Dialog) → Excludes (list_any (λ other. shares_name (at pair.1) (at other)) pair.0) (All (λ other. HaveOtherNames (at other) (at pair.1)) pair.0) =
    λ pair. any_excludes (λ other. shares_name (at pair.1) (at other)) (λ other. HaveOtherNames (at other) (at pair.1)) (λ other. shares_excludes (at pair.1) (at other)) pair.0 in
    let dialogs : NoneAfter (dialog_has faults.NameTwice d) d.dialogs ↔ (All (λ dialog. All (λ window. HaveOtherNames (own window) (at dialog)) d.windows) d.dialogs × AllPairs (λ x y. HaveOtherNames (at x) (at y)) d.dialogs) =
    chain
    (each (λ pair. dialog_named_again d pair.0 pair.1 ≡ false) (λ pair. All (λ window. HaveOtherNames (own window) (at pair.1)) d.windows × All (λ other. HaveOtherNames (at other) (at pair.1)) pair.0)
    (λ pair. or_excludes (list_any (λ window. shares_name (at pair.1) (own window)) d.windows) (list_any (λ other. shares_name (at pair.1) (at other)) pair.0) (apart pair.1) (again pair))
    (after_seen [] d.dialogs))
    (chain
    (all_and (λ pair. All (λ window. HaveOtherNames (own window) (at pair.1)) d.windows) (λ pair. All (λ other. HaveOtherNames (at other) (at pair.1)) pair.0) (after_seen [] d.dialogs))
    (both
    (after_own (λ dialog. All (λ window. HaveOtherNames (own window) (at dialog)) d.windows) [] d.dialogs)
    (after_each (λ x y. HaveOtherNames (at x) (at y)) d.dialogs))) in
    let over : Across HaveOtherNames (map own d.windows) (map at d.dialogs) ↔ All (λ dialog. All (λ window. HaveOtherNames (own window) (at dialog)) d.windows) d.dialogs =
    chain
    (all_map (λ x. All (HaveOtherNames x) (map at d.dialogs)) own d.windows)
    (chain
    (each (λ window. All (HaveOtherNames (own window)) (map at d.dialogs)) (λ window. All (λ dialog. HaveOtherNames (own window) (at dialog)) d.dialogs) (λ window. all_map (HaveOtherNames (own window)) at d.dialogs) d.windows)
    (all_swap (λ window dialog. HaveOtherNames (own window) (at dialog)) d.windows d.dialogs)) in
    let split = pairs_append HaveOtherNames (map own d.windows) (map at d.dialogs) in
    let mapped = pairs_map HaveOtherNames own d.windows in
    let mapped_too = pairs_map HaveOtherNames at d.dialogs in (
      λ h. let more = dialogs.0 h.1 in split.1 ((mapped.1 (windows.0 h.0), mapped_too.1 more.1), over.1 more.0),
      λ h. let parts = split.0 h in (windows.1 (mapped.0 parts.0.0), dialogs.1 (over.0 parts.1, mapped_too.0 parts.0.1)),
    )

views_named : (body : Body) → NoView faults.NameTwice body ↔ AllPairs HaveOtherNames body.views
views_named body = again_excludes shares_name HaveOtherNames shares_excludes body.views

pub names : (d : Desc) → Lacks faults.NameTwice d ↔ HaveOwnNames d
names d = let views = each (NoView faults.NameTwice) (λ body. AllPairs HaveOtherNames body.views) views_named (bodies_of d) in (
  λ h. record { frames = (frames_iff d).0 (h.windows, h.dialogs); views = views.0 h.views },
  λ s. let frames = (frames_iff d).1 s.frames in record {
    head = refl;
    menus = λ k p l. refl;
    items = λ k m l i p w. refl;
    status = λ k p l. refl;
    windows = frames.0;
    dialogs = frames.1;
    views = views.1 s.views;
    rules = λ k m l i p w. refl;
  },
)

-- ---- F2 and F3

within_excludes : (r s : Rect) → Excludes (not (is_within r s)) (IsPartOf r s)
within_excludes r s = not_excludes (is_within r s) (within_points (is_within r s) r s refl)

views_inside : (body : Body) → NoView faults.OutsideOwner body ↔ AreInside body.frame body.views
views_inside body =
    each (λ pair. is_outside body.frame pair.0 pair.1 ≡ false) (λ pair. IsPartOf (place_of_node pair.1) (room_in body.frame (owner_of pair.0 pair.1)))
    (λ pair. within_excludes (place_of_node pair.1) (room_in body.frame (owner_of pair.0 pair.1))) (after_seen [] body.views)

pub places : (d : Desc) → Lacks faults.OutsideOwner d ↔ ArePlacedWell d
places d =
    let dialogs : NoneAfter (dialog_has faults.OutsideOwner d) d.dialogs ↔ All (λ dialog. IsPartOf (place_of_node dialog.node) (desktop d)) d.dialogs = chain
    (after_own (λ dialog. is_off_desktop d dialog ≡ false) [] d.dialogs)
    (each (λ dialog. is_off_desktop d dialog ≡ false) (λ dialog. IsPartOf (place_of_node dialog.node) (desktop d)) (λ dialog. within_excludes (place_of_node dialog.node) (desktop d)) d.dialogs) in
    let views = each (NoView faults.OutsideOwner) (λ body. AreInside body.frame body.views) views_inside (bodies_of d) in (
      λ h. record { dialogs = dialogs.0 h.dialogs; views = views.0 h.views },
      λ s. record {
        head = refl;
        menus = λ k p l. refl;
        items = λ k m l i p w. refl;
        status = λ k p l. refl;
        windows = λ k p l. refl;
        dialogs = dialogs.1 s.dialogs;
        views = views.1 s.views;
        rules = λ k m l i p w. refl;
      },
    )

apart_excludes : (r s : Rect) → Excludes (overlap r s) (IsApartFrom r s)
apart_excludes r s = let points = overlap_points (overlap r s) r s refl in (
  λ e x y i j. false≢true (sym e ∙ points.1 (x, y, i, j)),
  λ apart. false_from_ne_true (overlap r s) (λ t. let p = points.0 t in apart p.0 p.1 p.2 p.3),
)

need_decides : (one other : Kind) → Decides (need_own_places one other) (NeedOwnPlaces one other)
need_decides one other =
    Decides-or (is_pane one || is_pane other) (is_control one && is_control other)
    (Decides-or (is_pane one) (is_pane other) (λ t. t, λ t. t) (λ t. t, λ t. t))
    (Decides-and (is_control one) (is_control other) (λ t. t, λ t. t) (λ t. t, λ t. t))

pair_excludes : (other node : Node)
    → Excludes (need_own_places other.kind node.kind && overlap (place_of_node other) (place_of_node node)) (NeedOwnPlaces other.kind node.kind → IsApartFrom (place_of_node other) (place_of_node node))
pair_excludes other node =
    let need = need_decides other.kind node.kind in
    let test = and_excludes (need_own_places other.kind node.kind) (overlap (place_of_node other) (place_of_node node)) (apart_excludes (place_of_node other) (place_of_node node)) in
    (λ e own. test.0 e (need.1 own), λ h. test.1 (λ t. h (need.0 t)))

views_apart : (body : Body) → NoView faults.Overlap body ↔ AreApart body.views
views_apart body =
    each (λ pair. overlaps_earlier pair.0 pair.1 ≡ false)
    (λ pair. All (λ other. NeedOwnPlaces other.kind pair.1.kind → IsApartFrom (place_of_node other) (place_of_node pair.1)) (earlier_siblings pair.0 pair.1))
    (λ pair. any_excludes (λ other. need_own_places other.kind pair.1.kind && overlap (place_of_node other) (place_of_node pair.1))
    (λ other. NeedOwnPlaces other.kind pair.1.kind → IsApartFrom (place_of_node other) (place_of_node pair.1))
    (λ other. pair_excludes other pair.1)
    (earlier_siblings pair.0 pair.1))
    (after_seen [] body.views)

pub siblings : (d : Desc) → Lacks faults.Overlap d ↔ AreViewsApart d
siblings d = let views = each (NoView faults.Overlap) (λ body. AreApart body.views) views_apart (bodies_of d) in (
  λ h. views.0 h.views,
  λ s. record {
    head = refl;
    menus = λ k p l. refl;
    items = λ k m l i p w. refl;
    status = λ k p l. refl;
    windows = λ k p l. refl;
    dialogs = λ k p l. refl;
    views = views.1 s;
    rules = λ k m l i p w. refl;
  },
)

-- ---- F6

link_excludes : (views : List Node) (node : Node) → Excludes (links_nothing views node) (IsLinked views node.kind)
link_excludes views node = at node.kind refl
  where
    at : (kind : Kind) → node.kind ≡ kind → Excludes (links_nothing views node) (IsLinked views kind)
    at (kinds.Label label) e = rw e (not_excludes (is_control_option (meant views label.link))
        (option_decides is_control_option (λ other. is_control other.kind) (λ other. IsTrue (is_control other.kind)) refl (λ other. refl) (λ other. (λ t. t, λ t. t)) (meant views label.link)))
    at _ e = rw e (λ f. tt, λ h. refl)

views_linked : (body : Body) → NoView faults.LabelLink body ↔ All (λ view. IsLinked body.views view.kind) body.views
views_linked body = chain
    (after_own (λ view. links_nothing body.views view ≡ false) [] body.views)
    (each (λ view. links_nothing body.views view ≡ false) (λ view. IsLinked body.views view.kind) (link_excludes body.views) body.views)

pub links : (d : Desc) → Lacks faults.LabelLink d ↔ AreLabelsLinked d
links d = let views = each (NoView faults.LabelLink) (λ body. All (λ view. IsLinked body.views view.kind) body.views) views_linked (bodies_of d) in (
  λ h. views.0 h.views,
  λ s. record {
    head = refl;
    menus = λ k p l. refl;
    items = λ k m l i p w. refl;
    status = λ k p l. refl;
    windows = λ k p l. refl;
    dialogs = λ k p l. refl;
    views = views.1 s;
    rules = λ k m l i p w. refl;
  },
)
