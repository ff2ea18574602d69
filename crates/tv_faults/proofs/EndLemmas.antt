-- What the want of faults of ends, default buttons and openings says: F10, F11 and F16.
use Rattle.std.proofs.Common.{◌≡◌, ◌↔◌, ℕ, false, not, ◌||◌, Decides, IsTrue, List, [], Option, Some, None, ℤ, pos, refl, ap, subst, ◌∙◌}
use Rattle.std.specs.List.{All, AllPairs, list_any}
use Rattle.std.specs.Ordering.{int_eq}
use Rattle.std.proofs.lemmas.Bool.{false≢true, not-true, not_from_false}
use Rattle.std.proofs.lemmas.Bool.Decides.{Decides-and, Decides-int_eq}
use Rattle.std.proofs.lemmas.Slice.Eq.{bytes_eq-Decides}
use Rattle.tv_model.specs.declared.node.Node.{Node}
use Rattle.tv_model.specs.declared.command.CommandSpec.{CommandSpec}
use Rattle.tv_model.specs.declared.command.CommandSpec.TheVariants as commands
use Rattle.tv_model.specs.declared.command.Ends.{Ends}
use Rattle.tv_model.specs.declared.desc.Desc.{Desc}
use Rattle.tv_model.specs.declared.desc.Dialog.{Dialog}
use Rattle.tv_model.specs.declared.fault.FaultKind.TheVariants as faults
use Rattle.tv_model.specs.Description.Commands.{command_of}
use Rattle.tv_model.specs.Description.Heads.{dialog_head, is_named}
use Rattle.tv_model.specs.Description.Names.{gives_name}
use Rattle.tv_model.specs.Description.Nodes.{is_default}
use Rattle.tv_model.specs.Description.Numbers.{IsBetween, is_between}
use Rattle.tv_model.specs.Faults.{dialog_has, head_lines}
use Rattle.tv_model.specs.Faults.Lines.{after_seen}
use Rattle.tv_model.specs.Faults.Starts.{is_option_number, is_second_default, lacks_cancel, lacks_end, means_dialog, opens_badly, starts_nowhere}
use Rattle.tv_faults.specs.Sound.Bodies.{Body, bodies_of}
use Rattle.tv_faults.specs.Sound.Ends.{AreNotBothDefault, HaveEnds, HaveOneDefault, HaveOpenings, IsAmongEnds, MeansDialog, OpensBy}
use Rattle.tv_faults.specs.Sound.Names.{HasName}
use Rattle.tv_faults.proofs.ExcludeLemmas.{Excludes, and_excludes, any_decides, any_excludes, not_excludes, or_excludes, test_excludes}
use Rattle.tv_faults.proofs.LackLemmas.{Lacks, NoView, NoneAfter, if_nil}
use Rattle.tv_faults.proofs.LetterLemmas.{between_decides}
use Rattle.tv_faults.proofs.NameLemmas.{gives_decides}
use Rattle.tv_faults.proofs.PairLemmas.{after_each, after_own, all_and, both, chain, each}

-- ---- F10

cancel_excludes : (dialog : Dialog) → Excludes (lacks_cancel dialog) (IsTrue (dialog_head dialog).ends.cancel)
cancel_excludes dialog = not_excludes (dialog_head dialog).ends.cancel (λ t. t, λ t. t)

end_excludes : (ends : Ends) (node : Node) → Excludes (lacks_end ends node) (IsAmongEnds ends (command_of node.kind))
end_excludes ends node = at (command_of node.kind) refl
  where
    at : (command : Option CommandSpec) → command_of node.kind ≡ command → Excludes (lacks_end ends node) (IsAmongEnds ends command)
    at (Some commands.Ok) e = rw e (not_excludes ends.ok (λ t. t, λ t. t))
    at (Some commands.Yes) e = rw e (not_excludes ends.yes (λ t. t, λ t. t))
    at (Some commands.No) e = rw e (not_excludes ends.no (λ t. t, λ t. t))
    at _ e = rw e (λ f. tt, λ h. refl)

views_ended : (body : Body) → NoView faults.MissingEnd body ↔ All (λ view. IsAmongEnds body.ends (command_of view.kind)) body.views
views_ended body = chain
    (after_own (λ view. lacks_end body.ends view ≡ false) [] body.views)
    (each (λ view. lacks_end body.ends view ≡ false) (λ view. IsAmongEnds body.ends (command_of view.kind)) (end_excludes body.ends) body.views)

pub have_ends : (d : Desc) → Lacks faults.MissingEnd d ↔ HaveEnds d
have_ends d =
    let dialogs : NoneAfter (dialog_has faults.MissingEnd d) d.dialogs ↔ All (λ dialog. IsTrue (dialog_head dialog).ends.cancel) d.dialogs = chain
    (after_own (λ dialog. lacks_cancel dialog ≡ false) [] d.dialogs)
    (each (λ dialog. lacks_cancel dialog ≡ false) (λ dialog. IsTrue (dialog_head dialog).ends.cancel) cancel_excludes d.dialogs) in
    let views = each (NoView faults.MissingEnd) (λ body. All (λ view. IsAmongEnds body.ends (command_of view.kind)) body.views) views_ended (bodies_of d) in (
      λ h. record { cancel = dialogs.0 h.dialogs; buttons = views.0 h.views },
      λ s. record {
        head = refl;
        menus = λ k p l. refl;
        items = λ k m l i p w. refl;
        status = λ k p l. refl;
        windows = λ k p l. refl;
        dialogs = dialogs.1 s.cancel;
        views = views.1 s.buttons;
        rules = λ k m l i p w. refl;
      },
    )

-- ---- F11

default_excludes : (before : List Node) (node : Node) → Excludes (is_second_default before node) (All (λ other. AreNotBothDefault other node) before)
default_excludes before node =
    let test = and_excludes (is_default node) (list_any is_default before)
    (any_excludes is_default (λ other. IsTrue (is_default other) → ⊥) (λ other. test_excludes (is_default other) (λ t. t, λ t. t)) before) in
    (λ e k d less one other. test.0 e other k d less one, λ h. test.1 (λ own k d less one. h k d less one own))

views_default : (body : Body) → NoView faults.SecondDefault body ↔ AllPairs AreNotBothDefault body.views
views_default body = chain
    (each (λ pair. is_second_default pair.0 pair.1 ≡ false) (λ pair. All (λ other. AreNotBothDefault other pair.1) pair.0) (λ pair. default_excludes pair.0 pair.1) (after_seen [] body.views))
    (after_each AreNotBothDefault body.views)

pub one_default : (d : Desc) → Lacks faults.SecondDefault d ↔ HaveOneDefault d
one_default d = let views = each (NoView faults.SecondDefault) (λ body. AllPairs AreNotBothDefault body.views) views_default (bodies_of d) in (
  λ h. views.0 h.views,
  λ s. record {
    head = refl;
    menus = λ k p l. refl;
    items = λ k m l i p w. refl;
    status = λ k p l. refl;
    windows = λ k p l. refl;
    dialogs = λ k p l. refl;
    views = views.1 s;
    rules = λ k m l i p w. refl;
  },
)

-- ---- F16

abbrev HasLawfulOpening : Dialog → Type 0
HasLawfulOpening dialog = (n : ℤ) → OpensBy dialog n → IsBetween (pos 100) (pos 255) n

abbrev OpenApart : Dialog → Dialog → Type 0
OpenApart dialog other = (n : ℤ) → OpensBy dialog n → OpensBy other n → ⊥

number_decides : (n : ℤ) (o : Option ℤ) → Decides (is_option_number n o) (o ≡ Some n)
number_decides n None = (λ t. absurd (false≢true t), λ e. absurd cc)
number_decides n (Some other) = let same : Decides (int_eq other n) (other ≡ n) = Decides-int_eq other n in
    (λ t. ap Some (same.0 t), λ e. let one : other ≡ n = cc in same.1 one)

opening_excludes : (before : List Dialog) (dialog : Dialog) → Excludes (opens_badly before dialog) (HasLawfulOpening dialog × All (λ other. OpenApart other dialog) before)
opening_excludes before dialog = at (dialog_head dialog).opens refl
  where
    at : (opens : Option ℤ) → (dialog_head dialog).opens ≡ opens → Excludes (opens_badly before dialog) (HasLawfulOpening dialog × All (λ other. OpenApart other dialog) before)
    at None e = (λ f. (λ n own. absurd cc, λ k other less n one own. absurd cc), λ h. rw e refl)
    at (Some given) e =
        let test = or_excludes (not (is_between (pos 100) (pos 255) given)) (list_any (λ other. is_option_number given (dialog_head other).opens) before)
        (not_excludes (is_between (pos 100) (pos 255) given) (between_decides (pos 100) (pos 255) given))
        (any_excludes (λ other. is_option_number given (dialog_head other).opens) (λ other. OpensBy other given → ⊥)
        (λ other. test_excludes (is_option_number given (dialog_head other).opens) (number_decides given (dialog_head other).opens)) before) in (
          λ f. let g : (not (is_between (pos 100) (pos 255) given) || list_any (λ other. is_option_number given (dialog_head other).opens) before) ≡ false = rw e at f in
              let h = test.0 g in (
                λ n own. let same : given ≡ n = cc in subst (IsBetween (pos 100) (pos 255)) same h.0,
                λ k other less n one own. let same : n ≡ given = cc in h.1 k other less (one ∙ ap Some same),
              ),
          λ h. rw e (test.1 (h.0 given e, λ k other less one. h.1 k other less given one e)),
        )

name_decides : (name : List ℕ) (dialog : Dialog) → Decides (is_named name dialog) ((dialog_head dialog).name ≡ name)
name_decides name dialog = bytes_eq-Decides (dialog_head dialog).name name

means_decides : (d : Desc) (name : List ℕ) → Decides (means_dialog d name) (MeansDialog d name)
means_decides d name =
    let windows = any_excludes (λ window. gives_name name window.node) (λ window. HasName window.node name → ⊥) (λ window. test_excludes (gives_name name window.node) (gives_decides name window.node)) d.windows in
    let test = Decides-and (not (list_any (λ window. gives_name name window.node) d.windows)) (list_any (is_named name) d.dialogs)
    (λ t. windows.0 (not-true (list_any (λ window. gives_name name window.node) d.windows) t), λ h. not_from_false (list_any (λ window. gives_name name window.node) d.windows) (windows.1 h))
    (any_decides (is_named name) (λ dialog. (dialog_head dialog).name ≡ name) (name_decides name) d.dialogs) in
    (λ t. let h = test.0 t in record { dialog = h.1; no_window = h.0 }, λ h. test.1 (h.no_window, h.dialog))

start_excludes : (d : Desc) → Excludes (starts_nowhere d) ((name : List ℕ) → d.start ≡ Some name → MeansDialog d name)
start_excludes d = at d.start refl
  where
    at : (start : Option (List ℕ)) → d.start ≡ start → Excludes (starts_nowhere d) ((name : List ℕ) → d.start ≡ Some name → MeansDialog d name)
    at None e = (λ f name is. absurd cc, λ h. rw e refl)
    at (Some given) e =
        let test = not_excludes (means_dialog d given) (means_decides d given) in (
          λ f name is. let g : not (means_dialog d given) ≡ false = rw e at f in let same : given ≡ name = cc in subst (MeansDialog d) same (test.0 g),
          λ h. rw e (test.1 (h given e)),
        )

pub openings : (d : Desc) → Lacks faults.BadOpening d ↔ HaveOpenings d
openings d =
    let start : (head_lines faults.BadOpening d ≡ []) ↔ ((name : List ℕ) → d.start ≡ Some name → MeansDialog d name) = chain (if_nil (starts_nowhere d) 3) (start_excludes d) in
    let dialogs : NoneAfter (dialog_has faults.BadOpening d) d.dialogs ↔ (All HasLawfulOpening d.dialogs × AllPairs OpenApart d.dialogs) = chain
    (each (λ pair. opens_badly pair.0 pair.1 ≡ false) (λ pair. HasLawfulOpening pair.1 × All (λ other. OpenApart other pair.1) pair.0) (λ pair. opening_excludes pair.0 pair.1) (after_seen [] d.dialogs))
    (chain
    (all_and (λ pair. HasLawfulOpening pair.1) (λ pair. All (λ other. OpenApart other pair.1) pair.0) (after_seen [] d.dialogs))
    (both (after_own HasLawfulOpening [] d.dialogs) (after_each OpenApart d.dialogs))) in (
      λ h. let f = dialogs.0 h.dialogs in record { numbers = f.0; apart = f.1; start = start.0 h.head },
      λ s. record {
        head = start.1 s.start;
        menus = λ k p l. refl;
        items = λ k m l i p w. refl;
        status = λ k p l. refl;
        windows = λ k p l. refl;
        dialogs = dialogs.1 (s.numbers, s.apart);
        views = λ k m l i p w. refl;
        rules = λ k m l i p w. refl;
      },
    )
