-- What a sound description has of menus, status items, corners and starts.
use Rattle.std.proofs.Common.{[], get_or, Some, All}
use Rattle.tv_model.specs.declared.desc.Desc.{Desc}
use Rattle.tv_model.specs.declared.desc.Menu.{Menu}
use Rattle.tv_model.specs.declared.desc.MenuItem.{MenuItem}
use Rattle.tv_model.specs.declared.desc.StatusItem.{StatusItem}
use Rattle.tv_model.specs.declared.desc.Dialog.{Dialog}
use Rattle.tv_model.specs.Description.LawfulNodes.{HasLawfulStart, IsLimited, IsLawfulCommand, IsShort}
use Rattle.tv_machine.proofs.LeafLemmas.{leaves-all}
use Rattle.tv_machine.specs.Leaves.{leaf_list}
use Rattle.tv_faults.specs.Sound.{Sound}
use Rattle.tv_faults.specs.Sound.Bodies.{dialog_body, window_body}
use Rattle.tv_faults.proofs.LackLemmas.{bodies}
use Rattle.tv_faults.proofs.LimitLemmas.{OfBody, nodes_iff}
use Rattle.tv_laws.proofs.ComingLemmas.{declared-fit}
use Rattle.tv_menu.specs.Lawful.{AreLawfulMenus, AreLawfulStatusItems, IsLawfulItem, IsLawfulMenu, IsLawfulScreen, IsLawfulStatusItem}
use Rattle.tv_session.specs.Parts.{HasLimitedHead, HaveNearCorners, StartsLawfully}
use Rattle.tv_session.proofs.LimitLemmas.{command_holds, dialog_head_limited, near_corner}

module _ (d : Desc) (s : Sound d) where
  pub lawful_screen : IsLawfulScreen d.width d.height
  lawful_screen = record { columns = s.limits.width; rows = s.limits.height }

  -- ---- menus and the status line

  lawful_item : (item : MenuItem) → IsLawfulCommand (Some item.command) × IsShort item.text.text → IsLawfulItem item
  lawful_item item h = record { text = h.1; command = command_holds item.command h.0 }

  lawful_menus : All IsLawfulMenu d.menus
  lawful_menus k menu less =
      let own : Menu = get_or d.menus k menu in
      record {
        title = s.limits.texts.titles k menu less;
        count = s.limits.counts.items k menu less;
        items = λ i item within. lawful_item (get_or own.items i item) (s.limits.texts.items k menu less i item within);
      }

  pub menus_lawful : AreLawfulMenus d.menus
  menus_lawful = record { count = s.limits.counts.menus; each = lawful_menus }

  lawful_status : (item : StatusItem) → IsLawfulCommand (Some item.command) × IsShort item.text → IsLawfulStatusItem item
  lawful_status item h = record { text = h.1; command = command_holds item.command h.0 }

  pub status_lawful : AreLawfulStatusItems d.status
  status_lawful = record {
    count = s.limits.counts.status;
    each = λ k item less. lawful_status (get_or d.status k item) (s.limits.texts.status k item less);
  }

  -- ---- windows and dialogs

  of_bodies : All (λ window. OfBody IsLimited (window_body window)) d.windows × All (λ dialog. OfBody IsLimited (dialog_body d.version dialog)) d.dialogs
  of_bodies = (bodies d (OfBody IsLimited)).0 ((nodes_iff IsLimited d).0 s.limits.nodes)

  pub windows_limited : All (λ window. IsLimited window.node) d.windows
  windows_limited k window less = (of_bodies.0 k window less).0

  dialogs_limited : All (λ dialog. IsLimited dialog.node) d.dialogs
  dialogs_limited k dialog less = (of_bodies.1 k dialog less).0

  pub heads_limited : All HasLimitedHead d.dialogs
  heads_limited k dialog less = dialog_head_limited (get_or d.dialogs k dialog).node (dialogs_limited k dialog less)

  pub corners_near : HaveNearCorners d
  corners_near = record {
    windows = λ k window less. near_corner (get_or d.windows k window).node (windows_limited k window less);
    dialogs = λ k dialog less. near_corner (get_or d.dialogs k dialog).node (dialogs_limited k dialog less);
  }

  -- ---- starts

  views_start : All (λ dialog. All (λ view. HasLawfulStart view.kind) dialog.views) d.dialogs
  views_start k dialog less =
      (((bodies d (OfBody (λ node. HasLawfulStart node.kind))).0 ((nodes_iff (λ node. HasLawfulStart node.kind) d).0 s.starts)).1 k dialog less).1

  pub starts_lawful : All StartsLawfully d.dialogs
  starts_lawful k dialog less =
      let own : Dialog = get_or d.dialogs k dialog in
      let leaves = leaves-all (λ node. HasLawfulStart node.kind) [] own.views (views_start k dialog less) in
      λ i leaf within. declared-fit (get_or (leaf_list own.views) i leaf).node.kind (leaves i leaf within)
