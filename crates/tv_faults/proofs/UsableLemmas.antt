-- What a sound description has that can be used.
use Rattle.std.proofs.Common.{◌≡◌, ℕ, ◌≤◌, true, false, ◌||◌, List, [], ◌∷◌, ◌++◌, length, get_or, Some, refl, sym, ap, ◌∙◌, arith}
use Rattle.std.specs.List.{All, list_any}
use Rattle.std.proofs.lemmas.List.Elements.{All-cons}
use Rattle.std.proofs.lemmas.List.Folds.{list_any-from_Any}
use Rattle.std.proofs.lemmas.Slice.Eq.{bytes_eq-Decides}
use Rattle.tv_model.specs.declared.node.Node.{Node}
use Rattle.tv_model.specs.declared.desc.Desc.{Desc}
use Rattle.tv_model.specs.declared.desc.Dialog.{Dialog}
use Rattle.tv_model.specs.Description.Heads.{dialog_head, is_named}
use Rattle.tv_model.specs.Description.LawfulNodes.{IsLimited, IsNarrowNode}
use Rattle.tv_model.specs.Description.Nodes.{is_control}
use Rattle.tv_model.specs.Faults.{IsSound}
use Rattle.tv_model.specs.Faults.Lines.{after_seen}
use Rattle.tv_model.specs.Faults.Names.{dialog_named_again}
use Rattle.tv_faults.specs.Sound.{Sound}
use Rattle.tv_faults.specs.Sound.Bodies.{dialog_body}
use Rattle.tv_faults.specs.Sound.Places.{AreApart, AreInside}
use Rattle.tv_faults.specs.Sound.Rules.{HasFreeControl}
use Rattle.tv_faults.specs.Usable.{HasLawfulCounts, IsUsable, IsUsableDialog}
use Rattle.tv_faults.proofs.LackLemmas.{bodies}
use Rattle.tv_faults.proofs.LimitLemmas.{count_holds, nodes_iff, OfBody}
use Rattle.tv_faults.proofs.SoundLemmas.{lacks_at, sound_says}

control_after : (seen views : List Node) → list_any (λ pair. is_control pair.1.kind) (after_seen seen views) ≡ list_any (λ node. is_control node.kind) views
control_after seen [] = refl
control_after seen (x ∷ xs) = ap (λ b. is_control x.kind || b) (control_after (seen ++ x ∷ []) xs)

-- a control that no rule reaches is a control
some_control : (dialog : Dialog) → HasFreeControl dialog → list_any (λ node. is_control node.kind) dialog.views ≡ true
some_control dialog h = sym (control_after [] dialog.views) ∙ list_any-from_Any (λ pair. is_control pair.1.kind) (after_seen [] dialog.views) (h.0, h.1, h.2, h.3, h.4.0)

module _ (d : Desc) (s : Sound d) where
  usable_dialogs : All (IsUsableDialog d) d.dialogs
  usable_dialogs k dialog less =
      let own : Dialog = get_or d.dialogs k dialog in
      let limited : OfBody IsLimited (dialog_body d.version own) = ((bodies d (OfBody IsLimited)).0 ((nodes_iff IsLimited d).0 s.limits.nodes)).1 k dialog less in
      let narrow : OfBody IsNarrowNode (dialog_body d.version own) = ((bodies d (OfBody IsNarrowNode)).0 ((nodes_iff IsNarrowNode d).0 s.widths.nodes)).1 k dialog less in
      record {
        nodes = All-cons IsLimited own.node own.views limited.0 limited.1;
        few = ((bodies d (λ body. length body.views ≤ 64)).0 s.limits.counts.views).1 k dialog less;
        narrow = All-cons IsNarrowNode own.node own.views narrow.0 narrow.1;
        within = s.places.dialogs k dialog less;
        inside = ((bodies d (λ body. AreInside body.frame body.views)).0 s.places.views).1 k dialog less;
        apart = ((bodies d (λ body. AreApart body.views)).0 s.siblings).1 k dialog less;
        control = some_control own (s.focus k dialog less);
        cancel = s.ends.cancel k dialog less;
      }

  usable_start : (name : List ℕ) → d.start ≡ Some name → list_any (is_named name) d.dialogs ≡ true
  usable_start name e = let h = (s.openings.start name e).dialog in
      list_any-from_Any (is_named name) d.dialogs (h.0, h.1, h.2, h.3, (bytes_eq-Decides (dialog_head h.1).name name).1 h.4)

  pub usable : IsUsable d
  usable = record { width = s.limits.width; height = s.limits.height; dialogs = usable_dialogs; start = usable_start }

pub sound_usable : (d : Desc) → IsSound d → IsUsable d
sound_usable d sound = usable d (sound_says d sound)

-- no dialog has a name that was given before
pub new_names : (d : Desc) → IsSound d → All (λ pair. dialog_named_again d pair.0 pair.1 ≡ false) (after_seen [] d.dialogs)
new_names d sound = let none = lacks_at d sound 0 (omega arith) in none.dialogs

-- no cluster or list has too many items
pub lawful_counts : (d : Desc) → IsSound d → All HasLawfulCounts d.dialogs
lawful_counts d sound k dialog less i view within =
    let own : Dialog = get_or d.dialogs k dialog in
    let limited : OfBody IsLimited (dialog_body d.version own) = ((bodies d (OfBody IsLimited)).0 ((nodes_iff IsLimited d).0 (sound_says d sound).limits.nodes)).1 k dialog less in
    count_holds (get_or own.views i view) (limited.1 i view within)
