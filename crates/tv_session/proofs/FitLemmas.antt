-- A state stays as runs of sound dialogs leave it where its log or its menu changes.
use Rattle.std.proofs.Common.{◌≡◌, Option, None, sym, ◌∙◌}
use Rattle.std.proofs.lemmas.List.Elements.{All-nil}
use Rattle.tv_model.specs.declared.desc.Desc.{Desc}
use Rattle.tv_machine.specs.State.{OpenMenu, State}
use Rattle.tv_machine.specs.Safe.{HasDeclaredEnd}
use Rattle.tv_machine.specs.Session.Step.{with_empty_log}
use Rattle.tv_laws.specs.Runs.{IsFitState}
use Rattle.tv_session.proofs.CommandLemmas.{none_some}

-- the log is taken
pub emptied_fit : (d : Desc) (s : State) → IsFitState d s → IsFitState d (with_empty_log s)
emptied_fit d s f = record {
  kept = record { saved = f.kept.saved; records = f.kept.records; places = f.kept.places; ordered = f.kept.ordered; ends = All-nil (HasDeclaredEnd d) };
  «open» = λ o e. let x = f.«open» o e in record { dialog = x.dialog; there = x.there; fit = x.fit; menu = x.menu; over = x.over; top = x.top };
  frame = λ held e. let x = f.frame held e in record { width = x.width; there = x.there; column = x.column; leaf = x.leaf; menu = x.menu; over = x.over };
}

-- without a dialog, and while no frame is held, any menu may be open
pub menu_fit : (d : Desc) (s : State) (menu : Option OpenMenu) → s.dialog ≡ None → s.frame ≡ None → IsFitState d s → IsFitState d (record s { menu = menu })
menu_fit d s menu none loose f = record {
  kept = record { saved = f.kept.saved; records = f.kept.records; places = f.kept.places; ordered = f.kept.ordered; ends = f.kept.ends };
  «open» = λ o e. absurd (none_some o (sym none ∙ e));
  frame = λ held e. absurd (none_some held (sym loose ∙ e));
}
