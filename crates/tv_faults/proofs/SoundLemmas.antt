-- A description without faults is sound by conditions, and the other way round.
use Rattle.std.proofs.Common.{◌≡◌, ◌↔◌, ℕ, ◌<◌, [], length, get_or, arith}
use Rattle.std.specs.List.{All}
use Rattle.std.proofs.lemmas.List.Elements.{All-from_recursion}
use Rattle.tv_model.specs.declared.desc.Desc.{Desc}
use Rattle.tv_model.specs.declared.fault.FaultKind.TheVariants as faults
use Rattle.tv_model.specs.Description.Heads.{all_nodes}
use Rattle.tv_model.specs.Description.LawfulNodes.{IsLawfulNode}
use Rattle.tv_model.specs.Faults.{IsSound, all_kinds, fault_at, fault_lines, faults_at, faults_of}
use Rattle.tv_faults.specs.Sound.{Sound}
use Rattle.tv_faults.proofs.EndLemmas.{have_ends, one_default, openings}
use Rattle.tv_faults.proofs.LackLemmas.{Lacks, flat_nil, lacks, map_nil}
use Rattle.tv_faults.proofs.LetterLemmas.{letters, menu_letters, own_keys}
use Rattle.tv_faults.proofs.LimitLemmas.{domains, limits, starts, widths}
use Rattle.tv_faults.proofs.NameLemmas.{links, names, places, siblings}
use Rattle.tv_faults.proofs.PairLemmas.{chain, each}
use Rattle.tv_faults.proofs.RuleLemmas.{focus, rules_name, rules_show}

-- no declaration has any of the faults
kinds_iff : (d : Desc) → IsSound d ↔ All (λ kind. Lacks kind d) all_kinds
unfolding faults_of
kinds_iff d = chain
    (flat_nil (λ kind. faults_at kind d) all_kinds)
    (each (λ kind. faults_at kind d ≡ []) (λ kind. Lacks kind d) (λ kind. chain (map_nil (fault_at kind) (fault_lines kind d)) (lacks kind d)) all_kinds)

-- a sound description lacks the fault of this place
pub lacks_at : (d : Desc) → IsSound d → (i : ℕ) → i < length all_kinds → Lacks (get_or all_kinds i faults.NameTwice) d
lacks_at d sound i less = (kinds_iff d).0 sound i faults.NameTwice less

pub sound_says : (d : Desc) → IsSound d → Sound d
sound_says d sound =
    let some = (domains d).0 (lacks_at d sound 11 (omega arith)) in
    record {
      names = (names d).0 (lacks_at d sound 0 (omega arith));
      places = (places d).0 (lacks_at d sound 1 (omega arith));
      siblings = (siblings d).0 (lacks_at d sound 2 (omega arith));
      letters = (letters d).0 (lacks_at d sound 3 (omega arith));
      keys = (own_keys d).0 (lacks_at d sound 4 (omega arith));
      links = (links d).0 (lacks_at d sound 5 (omega arith));
      rules = (rules_name d).0 (lacks_at d sound 6 (omega arith));
      shown = (rules_show d).0 (lacks_at d sound 7 (omega arith));
      focus = (focus d).0 (lacks_at d sound 8 (omega arith));
      ends = (have_ends d).0 (lacks_at d sound 9 (omega arith));
      defaults = (one_default d).0 (lacks_at d sound 10 (omega arith));
      domains = some;
      starts = (starts d some).0 (lacks_at d sound 12 (omega arith));
      widths = (widths d).0 (lacks_at d sound 13 (omega arith));
      limits = (limits d).0 (lacks_at d sound 14 (omega arith));
      openings = (openings d).0 (lacks_at d sound 15 (omega arith));
      menus = (menu_letters d).0 (lacks_at d sound 16 (omega arith));
    }

pub sound_holds : (d : Desc) → Sound d → IsSound d
sound_holds d s = (kinds_iff d).1 (All-from_recursion (λ kind. Lacks kind d) all_kinds (
  (names d).1 s.names,
  (
    (places d).1 s.places,
    (
      (siblings d).1 s.siblings,
      (
        (letters d).1 s.letters,
        (
          (own_keys d).1 s.keys,
          (
            (links d).1 s.links,
            (
              (rules_name d).1 s.rules,
              (
                (rules_show d).1 s.shown,
                (
                  (focus d).1 s.focus,
                  (
                    (have_ends d).1 s.ends,
                    (
                      (one_default d).1 s.defaults,
                      (
                        (domains d).1 s.domains,
                        (
                          (starts d s.domains).1 s.starts,
                          (
                            (widths d).1 s.widths,
                            (
                              (limits d).1 s.limits,
                              (
                                (openings d).1 s.openings,
                                (
                                  (menu_letters d).1 s.menus,
                                  tt,
                                ),
                              ),
                            ),
                          ),
                        ),
                      ),
                    ),
                  ),
                ),
              ),
            ),
          ),
        ),
      ),
    ),
  ),
))

-- each window, dialog and view of a sound description is lawful by itself
pub lawful_nodes : (d : Desc) → Sound d → All IsLawfulNode (all_nodes d)
lawful_nodes d s k node less = record { limited = s.limits.nodes k node less; narrow = s.widths.nodes k node less; domain = s.domains k node less; start = s.starts k node less }
