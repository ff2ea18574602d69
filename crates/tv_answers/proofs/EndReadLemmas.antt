-- What a dialog of a sound description logs of its end, and that it is read as that.
use lib.Utf8.{encode}
use Rattle.std.proofs.Common.{◌≡◌, ℕ, ◌+◌, ◌≤◌, ◌==◌, ◌&&◌, true, List, [], ◌∷◌, length, map, filter, find, get_or, Some, option_map, pos, IsTrue, refl, sym, ap, subst, ◌∙◌, All, AllPairs, arith}
use Rattle.std.specs.Prelude.{IfSome, codes, nat_lt, position, slice_get, unwrap_or, if◌then◌else◌}
use Rattle.std.specs.Char.{is_ascii_lowercase}
use Rattle.std.specs.List.{AllByRecursion, list_all, range_with_len}
use Rattle.std.proofs.lemmas.Bool.{and_parts}
use Rattle.std.proofs.lemmas.Bool.Decides.{nat_tests}
use Rattle.std.proofs.lemmas.List.Elements.{All-from_recursion, All-head, All-tail, All-weaker}
use Rattle.std.proofs.lemmas.Option.{get_or_from_slice_get, slice_get_within}
use Rattle.tv_valid.specs.Domain.{InDomain, IsViableText}
use Rattle.tv_valid.proofs.Beginnings.{accepted_viable}
use Rattle.tv_check.proofs.DialogLemmas.{IsSpelledDialog, ViewKind, dialogs_spelled}
use Rattle.tv_declarations.specs.Spelling.{IsDescription}
use Rattle.tv_declarations.specs.Spelling.Nodes.{IsSpelledKind}
use Rattle.tv_event.specs.declared.event.Command.{Command}
use Rattle.tv_faults.proofs.LackLemmas.{bodies}
use Rattle.tv_faults.proofs.SoundDialogLemmas.{sound_dialogs}
use Rattle.tv_faults.proofs.SoundLemmas.{sound_says}
use Rattle.tv_faults.proofs.UsableLemmas.{sound_usable}
use Rattle.tv_faults.specs.Sound.{Sound}
use Rattle.tv_faults.specs.Sound.Names.{HaveOtherNames}
use Rattle.tv_faults.specs.Usable.{IsUsableDialog}
use Rattle.tv_lang.specs.CanonicalDescription.{CanBeSpelled}
use Rattle.tv_machine.proofs.LeafLemmas.{ids-apart, leaf_id}
use Rattle.tv_machine.proofs.ListLemmas.{AreApart, bool_cases, found-all, found-passes, same-id}
use Rattle.tv_machine.specs.Dialog.Sound.{IsSoundDialog}
use Rattle.tv_machine.specs.Leaves.{leaf_list}
use Rattle.tv_machine.specs.Safe.{IsSafeEntry, IsSafeRecord, IsValueOf, field_ids, is_field}
use Rattle.tv_model.specs.declared.desc.Desc.{Desc}
use Rattle.tv_model.specs.declared.desc.Dialog.{Dialog}
use Rattle.tv_model.specs.declared.kind.Kind.{Kind}
use Rattle.tv_model.specs.declared.kind.Kind.TheVariants as kinds
use Rattle.tv_model.specs.declared.node.Node.{Node}
use Rattle.tv_model.specs.declared.record.Entry.{Entry}
use Rattle.tv_model.specs.declared.record.Value.{Value}
use Rattle.tv_model.specs.declared.record.Value.TheVariants as values
use Rattle.tv_model.specs.Controls.Contents.{is_item_place}
use Rattle.tv_model.specs.Description.Commands.{is_end}
use Rattle.tv_model.specs.Description.Heads.{all_nodes, dialog_head, dialog_nodes, is_named}
use Rattle.tv_model.specs.Description.LawfulNodes.{HasLawfulCount, HasLawfulDomain, IsLimited}
use Rattle.tv_model.specs.Description.Nodes.{has_id, name_of, node_of}
use Rattle.tv_model.specs.Faults.{IsSound}
use Rattle.tv_model.specs.Log.LogText.{end_word, has_bit, log_text, name_of_node}
use Rattle.tv_model.specs.Log.Record.{Entries}
use Rattle.tv_laws.specs.Records.{end_lines}
use Rattle.tv_words.specs.Canonical.{canonical_text}
use Rattle.tv_words.specs.declared.word.Word.TheVariants.{Bare}
use Rattle.tv_words.specs.Fields.{IsName, IsNumber, number_word}
use Rattle.tv_words.specs.Names.{is_name_char}
use Rattle.tv_words.proofs.CanonicalLineLemmas.{Stands}
use Rattle.tv_words.proofs.CanonicalTextLemmas.{StandInLine}
use Rattle.tv_answers.specs.declared.answers.Answer.{Answer}
use Rattle.tv_answers.specs.declared.answers.Answers.{Answers}
use Rattle.tv_answers.specs.declared.progress.Progress.{Progress}
use Rattle.tv_answers.specs.declared.progress.Block.TheVariants.{Saved}
use Rattle.tv_answers.specs.Laws.{EndsAreRead, HasCharacters, answers_saved}
use Rattle.tv_answers.specs.ReadLogs.{answers_in, changed_at, ended_by, is_field_named, no_answers, nothing_read, passed, with_command, words_answered}
use Rattle.tv_answers.proofs.LogNameLemmas.{FieldFound, fields_found, head_named, nodes_at, own_found, pairs_right, place_found}
use Rattle.tv_answers.proofs.LogReadLemmas.{AreLines, BeginsNoRow, IsReadEntry, end_read, end_text, end_words, field_words, fields_passed, fields_saved, logged_name, text_read}
use Rattle.tv_answers.proofs.LogTextLemmas.{CanBeLogged, items_words, text_word_stands, value_words}
use Rattle.tv_answers.proofs.PutLemmas.{changed_same, changed_twice, entered, entered_at, entry_id, kept_apart, put_first, with_all}
use Rattle.tv_answers.proofs.StandLemmas.{common_stands, is_common, number_stands}
use Rattle.tv_answers.proofs.ValueReadLemmas.{few_marked, value_is_value, value_read}

-- ---- words

name_char : (c : ℕ) → is_name_char c ≡ true → is_common c ≡ true
name_char c is = grind (arith, nat_tests, is)

name_chars : (cs : List ℕ) → list_all is_name_char cs ≡ true → list_all is_common cs ≡ true
name_chars [] are = refl
name_chars (c ∷ cs) are = let both = and_parts (is_name_char c) (list_all is_name_char cs) are in rw (name_char c both.0, name_chars cs both.1) refl

pub name_stands : (name : List ℕ) → IsName name → Stands (Bare name)
name_stands [] is = absurd cc
name_stands (c ∷ cs) is =
    let both = and_parts _ _ is in
    let more = and_parts (nat_lt (length cs) 20) (list_all is_name_char cs) both.1 in
    common_stands (c ∷ cs) (λ e. cc) (ap (λ b. b && list_all is_common cs) (first c both.0) ∙ name_chars cs more.1)
  where
    first : (n : ℕ) → is_ascii_lowercase n ≡ true → is_common n ≡ true
    first n h = grind (arith, nat_tests, h)

end_word_stands : (number : ℕ) → Stands (Bare (end_word number))
end_word_stands number =
    bool_cases (number == 10) (λ b. Stands (Bare (if b then codes "ok" else if number == 11 then codes "cancel" else if number == 12 then codes "yes" else codes "no"))) (λ is. common_stands (codes "ok") (λ e. cc) refl)
    (λ no_ok. bool_cases (number == 11) (λ b. Stands (Bare (if b then codes "cancel" else if number == 12 then codes "yes" else codes "no"))) (λ is. common_stands (codes "cancel") (λ e. cc) refl)
    (λ no_cancel. bool_cases (number == 12) (λ b. Stands (Bare (if b then codes "yes" else codes "no"))) (λ is. common_stands (codes "yes") (λ e. cc) refl) (λ no_yes. common_stands (codes "no") (λ e. cc) refl)))

few_number : (n : ℕ) → n ≤ 255 → IsNumber (pos n)
few_number n few = record { sfits = omega (arith, few) }

numbers_stand : (items : List ℕ) → AllByRecursion (λ n. n ≤ 255) items → AllByRecursion Stands (map (λ n. number_word (pos n)) items)
numbers_stand [] few = tt
numbers_stand (item ∷ items) few = (number_stands (pos item) (few_number item few.0), numbers_stand items few.1)

items_stand : (items : List ℕ) → AllByRecursion (λ n. n ≤ 255) items → AllByRecursion Stands (items_words items)
items_stand [] few = (common_stands (codes "-") (λ e. cc) refl, tt)
items_stand (item ∷ items) few = numbers_stand (item ∷ items) few

value_stands : (v : Value) → CanBeLogged v → AllByRecursion Stands (value_words v)
value_stands (values.Text text) can = (text_word_stands text can.0 can.1, tt)
value_stands (values.Marks marks) can = items_stand (filter (has_bit marks) (range_with_len 1 16)) (few_marked marks)
value_stands (values.Item item) can = (number_stands (pos item) can, tt)

-- ---- kinds

viable : (k : Kind) (v : Value) → IsValueOf InDomain k v → IsValueOf IsViableText k v
viable (kinds.Input input) (values.Text text) h = (h.0, h.1, accepted_viable h.0 text h.2)
viable k (values.Text text) h = absurd h
viable k (values.Marks marks) h = h
viable k (values.Item item) h = h

-- a value that a field may have while it is typed can be logged, if it is of characters
can_log : (k : Kind) (v : Value) → IsValueOf IsViableText k v → HasLawfulCount k → HasCharacters v → CanBeLogged v
can_log (kinds.Input input) (values.Text text) h count has = (h.2.0.2, has)
can_log k (values.Text text) h count has = absurd h
can_log k (values.Marks marks) h count has = tt
can_log (kinds.RadioButtons radios) (values.Item item) h count has = few_number item (few (length radios.items) item h count.1)
  where
    few : (c i : ℕ) → IsTrue (is_item_place c i) → c ≤ 16 → i ≤ 255
    few c i h le = grind (arith, nat_tests, h, le)
can_log (kinds.List list) (values.Item item) h count has = few_number item (few (length list.items) item h count.1)
  where
    few : (c i : ℕ) → IsTrue (is_item_place c i) → c ≤ 100 → i ≤ 255
    few c i h le = grind (arith, nat_tests, h, le)
can_log k (values.Item item) h count has = absurd h

pub kind_named : (kind : Kind) → IsSpelledKind kind → IfSome (name_of kind) IsName
kind_named (kinds.Button button) own = own.0
kind_named (kinds.CheckBoxes boxes) own = own.0
kind_named (kinds.RadioButtons radios) own = own.0
kind_named (kinds.Input input) own = own.0
kind_named (kinds.List list) own = own.0
kind_named (kinds.Dialog head) own = own.0
kind_named (kinds.Window head) own = own.0
kind_named (kinds.Pane pane) own = own.0
kind_named _ own = tt

-- a kind that has a value is a field and has a name
record IsNamedField (k : Kind) : Type 0 where
  field : is_field k ≡ true
  name : List ℕ
  named : name_of k ≡ Some name

named_field : (k : Kind) (v : Value) → IsValueOf IsViableText k v → IsNamedField k
named_field (kinds.Input input) (values.Text text) h = record { field = refl; name = input.name; named = refl }
named_field (kinds.CheckBoxes boxes) (values.Marks marks) h = record { field = refl; name = boxes.name; named = refl }
named_field (kinds.RadioButtons radios) (values.Item item) h = record { field = refl; name = radios.name; named = refl }
named_field (kinds.List list) (values.Item item) h = record { field = refl; name = list.name; named = refl }
named_field k (values.Text text) h = absurd h
named_field k (values.Marks marks) h = absurd h
named_field k (values.Item item) h = absurd h

-- ---- a dialog of a sound description

-- a value that the field of the entry may have while it is typed
pub record IsTypedEntry (dialog : Dialog) (entry : Entry) : Type 0 where
  pub node : Node
  pub there : node_of dialog.views entry.id ≡ Some node
  pub value : IsValueOf IsViableText node.kind entry.value

pub safe_typed : (dialog : Dialog) (e : Entry) → IsSafeEntry dialog e → IsTypedEntry dialog e
safe_typed dialog e x = record { node = x.node; there = x.there; value = viable x.node.kind e.value x.value }

pub all_at : {A : Type 0} (P : A → Type 0) (xs : List A) (place : ℕ) (x : A) → All P xs → slice_get xs place ≡ Some x → P x
all_at P xs place x all there = subst P (get_or_from_slice_get xs place x x there) (all place x (slice_get_within xs place x there))

module _ (d : Desc) (can : CanBeSpelled d) (sound : IsSound d) (place : ℕ) (dialog : Dialog) (there : slice_get d.dialogs place ≡ Some dialog) where
  pub says : Sound d
  says = sound_says d sound

  is : IsDescription d
  is = can.1.can

  pub spelled : IsSpelledDialog dialog
  spelled = all_at IsSpelledDialog d.dialogs place dialog (All-from_recursion IsSpelledDialog d.dialogs (dialogs_spelled d can)) there

  pub found : All (λ node. node_of (all_nodes d) node.id ≡ Some node) (dialog_nodes dialog)
  found = own_found d is place dialog there

  -- ---- its name

  pub own_logged : logged_name d dialog.node.id ≡ (dialog_head dialog).name
  own_logged = ap name_of_node (All-head (λ node. node_of (all_nodes d) node.id ≡ Some node) dialog.node dialog.views found) ∙ ap (λ o. unwrap_or o []) (head_named dialog.node.kind dialog.own_kind)

  pub own_name : IsName (logged_name d dialog.node.id)
  own_name = subst IsName (sym own_logged) (subst (λ o. IfSome o IsName) (head_named dialog.node.kind dialog.own_kind) (kind_named dialog.node.kind spelled.own))

  own_place : position (is_named (logged_name d dialog.node.id)) d.dialogs ≡ Some place
  own_place =
      ap (λ name. position (is_named name) d.dialogs) own_logged
      ∙ place_found d.dialogs place dialog (pairs_right HaveOtherNames (map (λ window. window.node) d.windows) (map (λ own. own.node) d.dialogs) says.names.frames) there

  -- ---- its fields

  pub usable : IsUsableDialog d dialog
  usable = all_at (IsUsableDialog d) d.dialogs place dialog (sound_usable d sound).dialogs there

  names : AllPairs HaveOtherNames dialog.views
  names = all_at (λ (own : Dialog). AllPairs HaveOtherNames own.views) d.dialogs place dialog ((bodies d (λ body. AllPairs HaveOtherNames body.views)).0 says.names.views).1 there

  entry_read : (e : Entry) → IsTypedEntry dialog e → HasCharacters e.value → IsReadEntry d dialog e × CanBeLogged e.value
  entry_read e x has =
      let node : Node = x.node in
      let at : (P : Node → Type 0) → All P dialog.views → P node = λ P all. found-all P (has_id e.id) dialog.views node all x.there in
      let id : node.id ≡ e.id = same-id node.id e.id (found-passes (has_id e.id) dialog.views node x.there) in
      let value = x.value in
      let own = named_field node.kind e.value value in
      let count : HasLawfulCount node.kind = (at IsLimited (All-tail IsLimited dialog.node dialog.views usable.nodes)).count in
      let domain : HasLawfulDomain node.kind = at (λ view. HasLawfulDomain view.kind) (All-tail (λ view. HasLawfulDomain view.kind) dialog.node dialog.views (nodes_at (λ view. HasLawfulDomain view.kind) d place dialog says.domains there)) in
      let kind : IsSpelledKind node.kind = at ViewKind (All-from_recursion ViewKind dialog.views spelled.views) in
      let by_id : node_of (all_nodes d) node.id ≡ Some node = at (λ view. node_of (all_nodes d) view.id ≡ Some view) (All-tail (λ view. node_of (all_nodes d) view.id ≡ Some view) dialog.node dialog.views found) in
      let logged : logged_name d e.id ≡ own.name = ap (logged_name d) (sym id) ∙ ap name_of_node by_id ∙ ap (λ o. unwrap_or o []) own.named in
      let name : IsName (logged_name d e.id) = subst IsName (sym logged) (subst (λ o. IfSome o IsName) own.named (kind_named node.kind kind)) in
      let can_be : CanBeLogged e.value = can_log node.kind e.value value count has in (
        record {
          view = node;
          id = id;
          name = name;
          found = ap (λ n. find (is_field_named n) dialog.views) logged ∙ at (FieldFound dialog.views) (fields_found dialog.views names) own.field own.name own.named;
          read = value_read node.kind e.value value count domain;
          value = value_is_value node.kind e.value value count;
          stands = ((common_stands (codes "field") (λ e. cc) refl, (name_stands (logged_name d e.id) name, value_stands e.value can_be)), refl);
        },
        can_be,
      )

  pub ids_apart : (es : Entries) → map (λ entry. entry.id) es ≡ field_ids dialog → AreApart (map entry_id es)
  ids_apart es fields =
      let own : IsSoundDialog dialog = all_at IsSoundDialog d.dialogs place dialog (sound_dialogs d is sound) there in
      subst AreApart (sym fields) (kept_apart leaf_id (λ leaf. is_field leaf.node.kind) (leaf_list dialog.views) (ids-apart dialog own.lawful))

  -- ---- its end

  entries_read : (es : Entries) → All (IsTypedEntry dialog) es → All (λ e. HasCharacters e.value) es → All (IsReadEntry d dialog) es
  entries_read es typed has = λ k e less. (entry_read (get_or es k e) (typed k e less) (has k e less)).0

  entries_logged : (es : Entries) → All (IsTypedEntry dialog) es → All (λ e. HasCharacters e.value) es → All (λ e. CanBeLogged e.value) es
  entries_logged es typed has = λ k e less. (entry_read (get_or es k e) (typed k e less) (has k e less)).1

  end_stands : (number : ℕ) → StandInLine (end_words d dialog.node.id number)
  end_stands number = ((common_stands (codes "end") (λ e. cc) refl, (name_stands (logged_name d dialog.node.id) own_name, (end_word_stands number, tt))), refl)

  begins_end : (number : ℕ) → BeginsNoRow (end_words d dialog.node.id number)
  unfolding encode
  begins_end number = λ xs. refl

  abbrev pub command_of : ℕ → Command
  command_of number = record { 0 = number }

  end_line_read : (n : ℕ) (p : Progress) (number : ℕ) → is_end (dialog_head dialog).ends number ≡ true → words_answered d n p (end_words d dialog.node.id number) ≡ Some (ended_by place (command_of number) p.answers)
  end_line_read n p number declared = end_read d n p.answers place dialog there (logged_name d dialog.node.id) number own_name own_place declared

  -- the lines of an end, whatever was read before
  abbrev pub after_end : ℕ → Entries → Answers → Progress
  after_end number es a = if number == 11 then passed a else record { answers = entered place es (with_command place (command_of number) a); block = Saved place }

  pub end_lines_read : (n : ℕ) (p : Progress) (number : ℕ) (es : Entries) → is_end (dialog_head dialog).ends number ≡ true → All (IsTypedEntry dialog) es → All (λ e. HasCharacters e.value) es
      → AreLines d n p (end_words d dialog.node.id number ∷ map (field_words d) es) (after_end number es p.answers)
  end_lines_read n p number es declared typed has = (
    ended_by place (command_of number) p.answers,
    record { stands = end_stands number; begins = begins_end number; read = end_line_read n p number declared },
    bool_cases (number == 11)
        (λ b. AreLines d (n + 1) (if b then passed p.answers else record { answers = with_command place (command_of number) p.answers; block = Saved place }) (map (field_words d) es)
        (if b then passed p.answers else record { answers = entered place es (with_command place (command_of number) p.answers); block = Saved place }))
        (λ cancels. fields_passed d place dialog there (n + 1) es p.answers (entries_read es typed has))
        (λ saves. fields_saved d place dialog there (n + 1) es (with_command place (command_of number) p.answers) (entries_read es typed has)),
  )

  pub end_text_is : (number : ℕ) (es : Entries) → All (IsTypedEntry dialog) es → All (λ e. HasCharacters e.value) es
      → log_text d (end_lines dialog number es) ≡ canonical_text (end_words d dialog.node.id number ∷ map (field_words d) es)
  end_text_is number es typed has = end_text d dialog number es (entries_logged es typed has)

  -- what is answered then, where nothing was before
  abbrev answer_by : ℕ → Entries → Answer
  answer_by number es = record { command = Some (command_of number); entries = es }

  saved_at : (number : ℕ) (es : Entries) → IsSafeRecord dialog es → entered place es (with_command place (command_of number) (no_answers d)) ≡ record (no_answers d) { dialogs = changed_at place (λ answer. answer_by number es) (no_answers d).dialogs }
  saved_at number es safe =
      let commands : Answer → Answer = λ answer. record answer { command = Some (command_of number) } in
      entered_at place es (with_command place (command_of number) (no_answers d))
      ∙ ap (λ dialogs. record (no_answers d) { dialogs = dialogs })
      (changed_twice place (with_all es) commands (no_answers d).dialogs
      ∙ changed_same place (λ answer. with_all es (commands answer)) (λ answer. answer_by number es) d.dialogs (ap (answer_by number) (put_first es (ids_apart es safe.fields))))

  pub end_is_read : (number : ℕ) (es : Entries) → is_end (dialog_head dialog).ends number ≡ true → IsSafeRecord dialog es → All (λ e. HasCharacters e.value) es
      → answers_in d (log_text d (end_lines dialog number es)) ≡ Some (answers_saved d place number es)
  end_is_read number es declared safe has =
      ap (λ text. answers_in d text) (end_text_is number es (All-weaker (IsSafeEntry dialog) (IsTypedEntry dialog) (safe_typed dialog) es safe.values) has)
      ∙ ap (option_map (λ p. p.answers)) (text_read d 1 (nothing_read d) (after_end number es (no_answers d)) (end_words d dialog.node.id number ∷ map (field_words d) es) (end_lines_read 1 (nothing_read d) number es declared (All-weaker (IsSafeEntry dialog) (IsTypedEntry dialog) (safe_typed dialog) es safe.values) has))
      ∙ bool_cases (number == 11)
      (λ b. Some (if b then passed (no_answers d) else record { answers = entered place es (with_command place (command_of number) (no_answers d)); block = Saved place }).answers
      ≡ Some (if b then no_answers d else record (no_answers d) { dialogs = changed_at place (λ answer. answer_by number es) (no_answers d).dialogs }))
      (λ cancels. refl) (λ saves. ap (λ a. Some a) (saved_at number es safe))

pub ends_are_read : (d : Desc) → CanBeSpelled d → IsSound d → EndsAreRead d
ends_are_read d can sound place dialog number es there declared safe has = end_is_read d can sound place dialog there number es declared safe has
