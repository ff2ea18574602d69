-- What the want of faults of domains, starts, widths and limits says: F12 to F15.
use Rattle.std.proofs.Common.{◌≡◌, ◌≢◌, ◌↔◌, ℕ, ◌<◌, ◌≤◌, ◌==◌, Bool, true, false, not, ◌&&◌, ◌||◌, Decides, IsTrue, List, [], ◌∷◌, length, get_or, flat_map, Option, Some, ℤ, pos, neg_ℤ, nat_le, refl}
use Rattle.std.specs.List.{All, list_any}
use Rattle.std.proofs.lemmas.Bool.{false≢true, not-true, not_from_false, or_parts, or_from}
use Rattle.std.proofs.lemmas.Bool.Decides.{Decides-and, Decides-eqb}
use Rattle.std.proofs.lemmas.List.Elements.{All-cons, All-head, All-tail}
use Rattle.tv_cells.specs.Glyph.{IsNarrow, is_narrow}
use Rattle.tv_valid.proofs.DecidingLemmas.{narrow_decides}
use Rattle.tv_model.specs.declared.node.Node.{Node}
use Rattle.tv_model.specs.declared.kind.Kind.{Kind}
use Rattle.tv_model.specs.declared.kind.Kind.TheVariants as kinds
use Rattle.tv_model.specs.declared.command.CommandSpec.{CommandSpec}
use Rattle.tv_model.specs.declared.command.CommandSpec.TheVariants as commands
use Rattle.tv_model.specs.declared.desc.Desc.{Desc}
use Rattle.tv_model.specs.declared.desc.Dialog.{Dialog}
use Rattle.tv_model.specs.declared.desc.Menu.{Menu}
use Rattle.tv_model.specs.declared.desc.Rule.{Rule}
use Rattle.tv_model.specs.declared.desc.Effect.{Effect}
use Rattle.tv_model.specs.declared.desc.Effect.TheVariants as effects
use Rattle.tv_model.specs.declared.fault.FaultKind.TheVariants as faults
use Rattle.tv_model.specs.Description.Commands.{command_of}
use Rattle.tv_model.specs.Description.Heads.{all_nodes, dialog_nodes, window_nodes}
use Rattle.tv_model.specs.Description.LawfulNodes.{HasLawfulAmount, HasLawfulCount, HasLawfulDomain, HasLawfulStart, IsLawfulCommand, IsLimited, IsNarrowNode, IsNarrowText, IsShort}
use Rattle.tv_model.specs.Controls.Contents.{IsItem}
use Rattle.tv_model.specs.Description.Limits.{least_height, least_width, most_chars}
use Rattle.tv_model.specs.Description.Nodes.{height_of, is_dialog, is_pane, is_window}
use Rattle.tv_model.specs.Description.Numbers.{IsBetween, is_between}
use Rattle.tv_model.specs.Description.Rules.{is_item}
use Rattle.tv_model.specs.Description.Texts.{shown_texts, texts_of}
use Rattle.tv_model.specs.Faults.{head_lines}
use Rattle.tv_model.specs.Faults.Domains.{any_text, has_no_text, may_stand, starts_badly}
use Rattle.tv_model.proofs.DomainLemmas.{any_text_law, may_stand_law}
use Rattle.tv_model.specs.Faults.Limits.{is_lawful, is_lawful_amount, is_lawful_corner, is_lawful_count, is_lawful_number, is_lawful_screen, is_lawful_size, is_too_long, rule_outside_limits, view_outside_limits}
use Rattle.tv_model.specs.Faults.Lines.{after_seen}
use Rattle.tv_model.specs.Faults.Texts.{has_wide, is_wide_text}
use Rattle.tv_faults.specs.Sound.Bodies.{Body, EachBody, bodies_of, dialog_body, window_body}
use Rattle.tv_faults.specs.Sound.Limits.{AreNarrow, EnablesLawfulCommand, IsWithinLimits}
use Rattle.tv_faults.proofs.ExcludeLemmas.{Excludes, and_excludes, any_excludes, not_excludes, or_excludes, test_excludes}
use Rattle.tv_faults.proofs.LackLemmas.{Lacks, NoItem, NoRule, NoView, NoneAfter, bodies, if_nil}
use Rattle.tv_faults.proofs.LetterLemmas.{at_most_decides, between_decides}
use Rattle.tv_faults.proofs.PairLemmas.{after_few, after_own, all_and, all_append, all_flat, both, chain, each}

-- ---- nodes as windows, dialogs and their views

-- a window or dialog itself and its views
abbrev pub OfBody : (Node → Type 0) → Body → Type 0
OfBody P body = P body.frame × All P body.views

first_rest : (P : Node → Type 0) (node : Node) (views : List Node) → All P (node ∷ views) ↔ (P node × All P views)
first_rest P node views = (λ h. (All-head P node views h, All-tail P node views h), λ h. All-cons P node views h.0 h.1)

pub nodes_iff : (P : Node → Type 0) (d : Desc) → All P (all_nodes d) ↔ EachBody d (OfBody P)
nodes_iff P d =
    let ends = bodies d (OfBody P) in
    chain
    (all_append P (flat_map window_nodes d.windows) (flat_map dialog_nodes d.dialogs))
    (chain
    (both
    (chain (all_flat P window_nodes d.windows) (each (λ window. All P (window_nodes window)) (λ window. OfBody P (window_body window)) (λ window. first_rest P window.node window.views) d.windows))
    (chain (all_flat P dialog_nodes d.dialogs) (each (λ dialog. All P (dialog_nodes dialog)) (λ dialog. OfBody P (dialog_body d.version dialog)) (λ dialog. first_rest P dialog.node dialog.views) d.dialogs)))
    (ends.1, ends.0))

-- what is tested on the line of each node
nodes_tested : (P : Node → Type 0) (d : Desc) → (All (λ window. P window.node) d.windows × All (λ dialog. P dialog.node) d.dialogs) × EachBody d (λ body. All P body.views) ↔ All P (all_nodes d)
nodes_tested P d =
    let nodes = nodes_iff P d in
    let parts = all_and (λ body. P body.frame) (λ body. All P body.views) (bodies_of d) in
    let frames = bodies d (λ body. P body.frame) in
    (λ h. nodes.1 (parts.1 (frames.1 h.0, h.1)), λ h. let f = parts.0 (nodes.0 h) in (frames.0 f.0, f.1))

-- ---- F12 and F13

domain_excludes : (kind : Kind) → Excludes (has_no_text kind) (HasLawfulDomain kind)
domain_excludes (kinds.Input input) = not_excludes (any_text input.spec) (any_text_law input.spec)
domain_excludes _ = (λ f. tt, λ h. refl)

item_decides : (n : ℤ) (count : ℕ) → Decides (is_item n count) (IsItem n count)
item_decides n count = between_decides (pos 1) (pos count) n

alone : {P : Type 0} (b : Bool) → Excludes b P → Excludes (b || false) P
alone b f = (λ e. f.0 (or_parts b false e).0, λ h. or_from b false (f.1 h) refl)

-- where the input has a domain with a text
start_excludes : (kind : Kind) → HasLawfulDomain kind → Excludes (starts_badly kind) (HasLawfulStart kind)
start_excludes (kinds.Input input) some =
    let test = and_excludes (any_text input.spec) (not (may_stand input.start input.spec)) (not_excludes (may_stand input.start input.spec) (may_stand_law input.start input.spec)) in
    (λ f. test.0 f ((any_text_law input.spec).1 some), λ h. test.1 (λ t. h))
start_excludes (kinds.CheckBoxes boxes) some =
    alone (list_any (λ item. not (is_item item (length boxes.items))) boxes.start)
    (any_excludes (λ item. not (is_item item (length boxes.items))) (λ item. IsItem item (length boxes.items)) (λ item. not_excludes (is_item item (length boxes.items)) (item_decides item (length boxes.items))) boxes.start)
start_excludes (kinds.RadioButtons radios) some = alone (not (is_item radios.start (length radios.items))) (not_excludes (is_item radios.start (length radios.items)) (item_decides radios.start (length radios.items)))
start_excludes (kinds.List list) some = alone (not (is_item list.start (length list.items))) (not_excludes (is_item list.start (length list.items)) (item_decides list.start (length list.items)))
start_excludes _ some = (λ f. tt, λ h. refl)

-- a window or dialog by itself has neither a domain nor a start
abbrev IsPlain : Kind → Type 0
IsPlain kind = HasLawfulDomain kind × HasLawfulStart kind

window_plain : (kind : Kind) → IsTrue (is_window kind) → IsPlain kind
window_plain (kinds.Window head) is = (tt, tt)
window_plain _ is = absurd (false≢true is)

dialog_plain : (kind : Kind) → IsTrue (is_dialog kind) → IsPlain kind
dialog_plain (kinds.Dialog head) is = (tt, tt)
dialog_plain _ is = absurd (false≢true is)

plain_nodes : (P : Node → Type 0) (d : Desc) → ((node : Node) → IsPlain node.kind → P node) → EachBody d (λ body. All P body.views) ↔ All P (all_nodes d)
plain_nodes P d f = let nodes = nodes_tested P d in (
  λ h. nodes.0 (
    (
      λ k window less. f (get_or d.windows k window).node (window_plain (get_or d.windows k window).node.kind (get_or d.windows k window).own_kind),
      λ k dialog less. f (get_or d.dialogs k dialog).node (dialog_plain (get_or d.dialogs k dialog).node.kind (get_or d.dialogs k dialog).own_kind),
    ),
    h,
  ),
  λ h. (nodes.1 h).1,
)

views_domains : (d : Desc) → EachBody d (NoView faults.EmptyDomain) ↔ EachBody d (λ body. All (λ view. HasLawfulDomain view.kind) body.views)
views_domains d =
    each (NoView faults.EmptyDomain) (λ body. All (λ view. HasLawfulDomain view.kind) body.views)
    (λ body. chain (after_own (λ view. has_no_text view.kind ≡ false) [] body.views)
    (each (λ view. has_no_text view.kind ≡ false) (λ view. HasLawfulDomain view.kind) (λ view. domain_excludes view.kind) body.views)) (bodies_of d)

pub domains : (d : Desc) → Lacks faults.EmptyDomain d ↔ All (λ node. HasLawfulDomain node.kind) (all_nodes d)
domains d =
    let views = views_domains d in
    let nodes = plain_nodes (λ node. HasLawfulDomain node.kind) d (λ node plain. plain.0) in (
      λ h. nodes.0 (views.0 h.views),
      λ s. record {
        head = refl;
        menus = λ k p l. refl;
        items = λ k m l i p w. refl;
        status = λ k p l. refl;
        windows = λ k p l. refl;
        dialogs = λ k p l. refl;
        views = views.1 (nodes.1 s);
        rules = λ k m l i p w. refl;
      },
    )

pub starts : (d : Desc) → All (λ node. HasLawfulDomain node.kind) (all_nodes d) → Lacks faults.BadStart d ↔ All (λ node. HasLawfulStart node.kind) (all_nodes d)
starts d some =
    let own : EachBody d (λ body. All (λ view. HasLawfulDomain view.kind) body.views) = (plain_nodes (λ node. HasLawfulDomain node.kind) d (λ node plain. plain.0)).1 some in
    let nodes = plain_nodes (λ node. HasLawfulStart node.kind) d (λ node plain. plain.1) in
    let views : (body : Body) → NoView faults.BadStart body ↔ All (λ view. starts_badly view.kind ≡ false) body.views = λ body. after_own (λ view. starts_badly view.kind ≡ false) [] body.views in (
      λ h. nodes.0 (λ k body less i view within.
          let here : Body = get_or (bodies_of d) k body in
          (start_excludes (get_or here.views i view).kind (own k body less i view within)).0 ((views here).0 (h.views k body less) i view within)),
      λ s. record {
        head = refl;
        menus = λ k p l. refl;
        items = λ k m l i p w. refl;
        status = λ k p l. refl;
        windows = λ k p l. refl;
        dialogs = λ k p l. refl;
        rules = λ k m l i p w. refl;
        views = λ k body less.
            let here : Body = get_or (bodies_of d) k body in
            (views here).1 (λ i view within. (start_excludes (get_or here.views i view).kind (own k body less i view within)).1 (nodes.1 s k body less i view within));
      },
    )

-- ---- F14

text_excludes : (text : List ℕ) → Excludes (is_wide_text text) (IsNarrowText text)
text_excludes text = any_excludes (λ ch. not (is_narrow ch)) IsNarrow (λ ch. not_excludes (is_narrow ch) (narrow_decides ch)) text

wide_excludes : (node : Node) → Excludes (has_wide node) (IsNarrowNode node)
wide_excludes node = any_excludes is_wide_text IsNarrowText text_excludes (shown_texts node.kind)

pub widths : (d : Desc) → Lacks faults.WideCharacter d ↔ AreNarrow d
widths d =
    let nodes = nodes_tested IsNarrowNode d in
    let menus = chain (after_own (λ menu. is_wide_text menu.title.text ≡ false) [] d.menus) (each (λ menu. is_wide_text menu.title.text ≡ false) (λ menu. IsNarrowText menu.title.text) (λ menu. text_excludes menu.title.text) d.menus) in
    let items = each (NoItem faults.WideCharacter) (λ menu. All (λ item. IsNarrowText item.text.text) menu.items)
    (λ menu. chain (after_own (λ item. is_wide_text item.text.text ≡ false) [] menu.items)
    (each (λ item. is_wide_text item.text.text ≡ false) (λ item. IsNarrowText item.text.text) (λ item. text_excludes item.text.text) menu.items)) d.menus in
    let status = chain (after_own (λ item. is_wide_text item.text ≡ false) [] d.status) (each (λ item. is_wide_text item.text ≡ false) (λ item. IsNarrowText item.text) (λ item. text_excludes item.text) d.status) in
    let windows = chain (after_own (λ window. has_wide window.node ≡ false) [] d.windows) (each (λ window. has_wide window.node ≡ false) (λ window. IsNarrowNode window.node) (λ window. wide_excludes window.node) d.windows) in
    let dialogs = chain (after_own (λ dialog. has_wide dialog.node ≡ false) [] d.dialogs) (each (λ dialog. has_wide dialog.node ≡ false) (λ dialog. IsNarrowNode dialog.node) (λ dialog. wide_excludes dialog.node) d.dialogs) in
    let views = each (NoView faults.WideCharacter) (λ body. All IsNarrowNode body.views)
    (λ body. chain (after_own (λ view. has_wide view ≡ false) [] body.views) (each (λ view. has_wide view ≡ false) IsNarrowNode wide_excludes body.views)) (bodies_of d) in (
      λ h. record { titles = menus.0 h.menus; items = items.0 h.items; status = status.0 h.status; nodes = nodes.0 ((windows.0 h.windows, dialogs.0 h.dialogs), views.0 h.views) },
      λ s. let f = nodes.1 s.nodes in record {
        head = refl;
        menus = menus.1 s.titles;
        items = items.1 s.items;
        status = status.1 s.status;
        windows = windows.1 f.0.0;
        dialogs = dialogs.1 f.0.1;
        views = views.1 f.1;
        rules = λ k m l i p w. refl;
      },
    )

-- ---- F15

command_decides : (o : Option CommandSpec) → Decides (is_lawful_number o) (IsLawfulCommand o)
command_decides (Some (commands.Number n)) = between_decides (pos 100) (pos 255) n
command_decides _ = (λ t. tt, λ h. refl)

count_decides : (kind : Kind) → Decides (is_lawful_count kind) (HasLawfulCount kind)
count_decides (kinds.CheckBoxes boxes) = Decides-and (nat_le 1 (length boxes.items)) (nat_le (length boxes.items) 16) (at_most_decides 1 (length boxes.items)) (at_most_decides (length boxes.items) 16)
count_decides (kinds.RadioButtons radios) = Decides-and (nat_le 1 (length radios.items)) (nat_le (length radios.items) 16) (at_most_decides 1 (length radios.items)) (at_most_decides (length radios.items) 16)
count_decides (kinds.List list) = Decides-and (nat_le 1 (length list.items)) (nat_le (length list.items) 100) (at_most_decides 1 (length list.items)) (at_most_decides (length list.items) 100)
count_decides _ = (λ t. tt, λ h. refl)

-- a lawful count, as a test
pub count_holds : (node : Node) → IsLimited node → is_lawful_count node.kind ≡ true
count_holds node limited = (count_decides node.kind).1 limited.count

amount_decides : (kind : Kind) → Decides (is_lawful_amount kind) (HasLawfulAmount kind)
amount_decides (kinds.Window head) = between_decides (pos 0) (pos 9) head.number
amount_decides (kinds.Input input) = between_decides (pos 1) (pos 120) input.spec.max
amount_decides _ = (λ t. tt, λ h. refl)

long_excludes : (text : List ℕ) → Excludes (is_too_long text) (IsShort text)
long_excludes text = not_excludes (nat_le (length text) most_chars) (at_most_decides (length text) most_chars)

limited_decides : (node : Node) → Decides (is_lawful node) (IsLimited node)
limited_decides node =
    let corner = Decides-and (is_between (neg_ℤ (pos 132)) (pos 132) node.x) (is_between (neg_ℤ (pos 132)) (pos 132) node.y) (between_decides (neg_ℤ (pos 132)) (pos 132) node.x) (between_decides (neg_ℤ (pos 132)) (pos 132) node.y) in
    let size = Decides-and (is_between (least_width node.kind) (pos 132) node.w) (is_between (least_height node.kind) (pos 60) (height_of node.kind))
    (between_decides (least_width node.kind) (pos 132) node.w) (between_decides (least_height node.kind) (pos 60) (height_of node.kind)) in
    let long = any_excludes is_too_long IsShort long_excludes (texts_of node.kind) in
    let texts : Decides (not (list_any is_too_long (texts_of node.kind))) (All IsShort (texts_of node.kind)) = (
      λ t. long.0 (not-true (list_any is_too_long (texts_of node.kind)) t),
      λ h. not_from_false (list_any is_too_long (texts_of node.kind)) (long.1 h),
    ) in
    let all = Decides-and ((is_lawful_corner node && is_lawful_size node) && (is_lawful_count node.kind && is_lawful_amount node.kind)) (is_lawful_number (command_of node.kind) && not (list_any is_too_long (texts_of node.kind)))
    (Decides-and (is_lawful_corner node && is_lawful_size node) (is_lawful_count node.kind && is_lawful_amount node.kind)
    (Decides-and (is_lawful_corner node) (is_lawful_size node) corner size)
    (Decides-and (is_lawful_count node.kind) (is_lawful_amount node.kind) (count_decides node.kind) (amount_decides node.kind)))
    (Decides-and (is_lawful_number (command_of node.kind)) (not (list_any is_too_long (texts_of node.kind))) (command_decides (command_of node.kind)) texts) in (
      λ t. let h = all.0 t in record { x = h.0.0.0.0; y = h.0.0.0.1; w = h.0.0.1.0; h = h.0.0.1.1; count = h.0.1.0; amount = h.0.1.1; texts = h.1.1; command = h.1.0 },
      λ l. all.1 ((((l.x, l.y), (l.w, l.h)), (l.count, l.amount)), (l.command, l.texts)),
    )

-- the line itself, and how many come before it
abbrev IsAt : {A : Type 0} → ℕ → List A × A → Type 0
IsAt n pair = (length pair.0 == n) ≡ false

line_tested : {A : Type 0} (bad : A → Bool) (P : A → Type 0) (n : ℕ) → ((x : A) → Excludes (bad x) (P x)) → (xs : List A)
    → NoneAfter (λ before x. bad x || (length before == n)) xs ↔ (All P xs × (length xs ≤ n))
line_tested bad P n f xs = chain
    (each (λ pair. (bad pair.1 || (length pair.0 == n)) ≡ false) (λ pair. P pair.1 × IsAt n pair) (λ pair. or_excludes (bad pair.1) (length pair.0 == n) (f pair.1) (λ e. e, λ e. e)) (after_seen [] xs))
    (chain (all_and (λ pair. P pair.1) (IsAt n) (after_seen [] xs)) (both (after_own P [] xs) (after_few n xs)))

limited_excludes : (node : Node) → Excludes (not (is_lawful node)) (IsLimited node)
limited_excludes node = not_excludes (is_lawful node) (limited_decides node)

-- of a command and a text, and of too many
item_tested : {A : Type 0} (command : A → CommandSpec) (text : A → List ℕ) (n : ℕ) (xs : List A)
    → NoneAfter (λ before x. not (is_lawful_number (Some (command x))) || (is_too_long (text x) || (length before == n))) xs ↔ (All (λ x. IsLawfulCommand (Some (command x)) × IsShort (text x)) xs × (length xs ≤ n))
item_tested command text n xs = chain
    (each (λ pair. (not (is_lawful_number (Some (command pair.1))) || (is_too_long (text pair.1) || (length pair.0 == n))) ≡ false) (λ pair. (IsLawfulCommand (Some (command pair.1)) × IsShort (text pair.1)) × IsAt n pair)
    (λ pair.
    let test = or_excludes (not (is_lawful_number (Some (command pair.1)))) (is_too_long (text pair.1) || (length pair.0 == n))
    (not_excludes (is_lawful_number (Some (command pair.1))) (command_decides (Some (command pair.1))))
    (or_excludes (is_too_long (text pair.1)) (length pair.0 == n) (long_excludes (text pair.1)) (λ e. e, λ e. e)) in
    (λ e. let h = test.0 e in ((h.0, h.1.0), h.1.1), λ h. test.1 (h.0.0, (h.0.1, h.1))))
    (after_seen [] xs))
    (chain (all_and (λ pair. IsLawfulCommand (Some (command pair.1)) × IsShort (text pair.1)) (IsAt n) (after_seen [] xs))
    (both (after_own (λ x. IsLawfulCommand (Some (command x)) × IsShort (text x)) [] xs) (after_few n xs)))

abbrev IsNotNested : Node → Type 0
IsNotNested view = IsTrue (is_pane view.kind) → view.depth ≢ 4

views_limited : (body : Body) → NoView faults.OutsideLimits body ↔ (All IsLimited body.views × ((length body.views ≤ 64) × All IsNotNested body.views))
views_limited body = chain
    (each (λ pair. view_outside_limits pair.0 pair.1 ≡ false) (λ pair. IsLimited pair.1 × (IsAt 64 pair × IsNotNested pair.1))
    (λ pair. or_excludes (not (is_lawful pair.1)) ((length pair.0 == 64) || (is_pane pair.1.kind && (pair.1.depth == 4))) (limited_excludes pair.1)
    (or_excludes (length pair.0 == 64) (is_pane pair.1.kind && (pair.1.depth == 4)) (λ e. e, λ e. e)
    (and_excludes (is_pane pair.1.kind) (pair.1.depth == 4) (test_excludes (pair.1.depth == 4) (Decides-eqb pair.1.depth 4)))))
    (after_seen [] body.views))
    (chain
    (all_and (λ pair. IsLimited pair.1) (λ pair. IsAt 64 pair × IsNotNested pair.1) (after_seen [] body.views))
    (both (after_own IsLimited [] body.views)
    (chain
    (all_and (IsAt 64) (λ pair. IsNotNested pair.1) (after_seen [] body.views))
    (both (after_few 64 body.views) (after_own IsNotNested [] body.views)))))

effect_excludes : (before : List Rule) (rule : Rule) → Excludes (rule_outside_limits before rule) (EnablesLawfulCommand rule.effect × IsAt 64 (before, rule))
effect_excludes before rule = at rule.effect refl
  where
    at : (effect : Effect) → rule.effect ≡ effect → Excludes (rule_outside_limits before rule) (EnablesLawfulCommand effect × IsAt 64 (before, rule))
    at (effects.Show name) e = rw e ((λ f. (tt, f), λ h. h.1))
    at (effects.Enable command) e = rw e (or_excludes (not (is_lawful_number (Some command))) (length before == 64) (not_excludes (is_lawful_number (Some command)) (command_decides (Some command))) (λ f. f, λ f. f))

rules_limited : (dialog : Dialog) → NoRule faults.OutsideLimits dialog ↔ (All (λ rule. EnablesLawfulCommand rule.effect) dialog.rules × (length dialog.rules ≤ 64))
rules_limited dialog = chain
    (each (λ pair. rule_outside_limits pair.0 pair.1 ≡ false) (λ pair. EnablesLawfulCommand pair.1.effect × IsAt 64 pair) (λ pair. effect_excludes pair.0 pair.1) (after_seen [] dialog.rules))
    (chain (all_and (λ pair. EnablesLawfulCommand pair.1.effect) (IsAt 64) (after_seen [] dialog.rules))
    (both (after_own (λ rule. EnablesLawfulCommand rule.effect) [] dialog.rules) (after_few 64 dialog.rules)))

screen_iff : (d : Desc) → (head_lines faults.OutsideLimits d ≡ []) ↔ (IsBetween (pos 20) (pos 132) d.width × IsBetween (pos 10) (pos 60) d.height)
screen_iff d = chain (if_nil (not (is_lawful_screen d)) 2)
    (not_excludes (is_lawful_screen d) (Decides-and (is_between (pos 20) (pos 132) d.width) (is_between (pos 10) (pos 60) d.height) (between_decides (pos 20) (pos 132) d.width) (between_decides (pos 10) (pos 60) d.height)))

pub limits : (d : Desc) → Lacks faults.OutsideLimits d ↔ IsWithinLimits d
limits d =
    let screen = screen_iff d in
    let nodes = nodes_tested IsLimited d in
    let menus = line_tested (λ menu. is_too_long menu.title.text) (λ menu. IsShort menu.title.text) 8 (λ menu. long_excludes menu.title.text) d.menus in
    let items : (menu : Menu) → NoItem faults.OutsideLimits menu ↔ (All (λ item. IsLawfulCommand (Some item.command) × IsShort item.text.text) menu.items × (length menu.items ≤ 16)) =
    λ menu. item_tested (λ item. item.command) (λ item. item.text.text) 16 menu.items in
    let status = item_tested (λ item. item.command) (λ item. item.text) 8 d.status in
    let windows = line_tested (λ window. not (is_lawful window.node)) (λ window. IsLimited window.node) 9 (λ window. limited_excludes window.node) d.windows in
    let dialogs = line_tested (λ dialog. not (is_lawful dialog.node)) (λ dialog. IsLimited dialog.node) 16 (λ dialog. limited_excludes dialog.node) d.dialogs in (
      λ h.
          let title = menus.0 h.menus in
          let own = status.0 h.status in
          let window = windows.0 h.windows in
          let dialog = dialogs.0 h.dialogs in
          let view : (k : ℕ) (b : Body) → k < length (bodies_of d) → All IsLimited (get_or (bodies_of d) k b).views × ((length (get_or (bodies_of d) k b).views ≤ 64) × All IsNotNested (get_or (bodies_of d) k b).views) =
          λ k b less. (views_limited (get_or (bodies_of d) k b)).0 (h.views k b less) in
          record {
            width = (screen.0 h.head).0;
            height = (screen.0 h.head).1;
            nodes = nodes.0 ((window.0, dialog.0), λ k b less. (view k b less).0);
            texts = record {
              titles = title.0;
              items = λ k menu less. ((items (get_or d.menus k menu)).0 (h.items k menu less)).0;
              status = own.0;
              rules = λ k dialog less. ((rules_limited (get_or d.dialogs k dialog)).0 (h.rules k dialog less)).0;
            };
            counts = record {
              menus = title.1;
              items = λ k menu less. ((items (get_or d.menus k menu)).0 (h.items k menu less)).1;
              status = own.1;
              windows = window.1;
              dialogs = dialog.1;
              views = λ k b less. (view k b less).1.0;
              rules = λ k dialog less. ((rules_limited (get_or d.dialogs k dialog)).0 (h.rules k dialog less)).1;
            };
            nested = λ k b less. (view k b less).1.1;
          },
      λ s.
          let f = nodes.1 s.nodes in
          record {
            head = screen.1 (s.width, s.height);
            menus = menus.1 (s.texts.titles, s.counts.menus);
            items = λ k menu less. (items (get_or d.menus k menu)).1 (s.texts.items k menu less, s.counts.items k menu less);
            status = status.1 (s.texts.status, s.counts.status);
            windows = windows.1 (f.0.0, s.counts.windows);
            dialogs = dialogs.1 (f.0.1, s.counts.dialogs);
            views = λ k b less. (views_limited (get_or (bodies_of d) k b)).1 (f.1 k b less, (s.counts.views k b less, s.nested k b less));
            rules = λ k dialog less. (rules_limited (get_or d.dialogs k dialog)).1 (s.texts.rules k dialog less, s.counts.rules k dialog less);
          },
    )
