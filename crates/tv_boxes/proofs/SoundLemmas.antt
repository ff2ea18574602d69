-- Whether a text spells a description, and a sound one, by how it is read.
use Rattle.std.proofs.Common.{◌≡◌, ℕ, Bool, true, false, List, Err, MatchBool, subst, sym}
use Rattle.tv_lang.specs.declared.description.LangFault.{LangFault}
use Rattle.tv_lang.specs.declared.description.LangFault.TheVariants as lang
use Rattle.tv_lang.specs.Faults.{GivesDescription, Spells}
use Rattle.tv_model.specs.declared.desc.Desc.{Desc}
use Rattle.tv_model.specs.Faults.{IsSound}
use Rattle.tv_declarations.specs.CanonicalDescription.{description_text}
use Rattle.tv_boxes.specs.declared.request.Request.{Request}
use Rattle.tv_boxes.specs.Boxes.{IsOfText, IsSoundAs, IsSoundBox, SpellsSound, boxed_desc, boxed_text}

-- the text spells the description, and that is sound, or not both
abbrev pub Judges : List ℕ → Desc → Bool → Type 0
Judges text d sound = MatchBool sound (SpellsSound text d) (¬ SpellsSound text d)

-- by the one description that it spells
pub judged : (text : List ℕ) (read d : Desc) → Spells text read → ((other : Desc) → Spells text other → read ≡ other) → (sound : Bool) → MatchBool sound (IsSoundAs d read) (¬ IsSoundAs d read) → Judges text d sound
judged text read d spelled only true is = (subst (Spells text) is.0 spelled, subst IsSound is.0 is.1)
judged text read d spelled only false isnt = λ found. isnt (only d found.0, subst IsSound (sym (only d found.0)) found.1)

-- it spells none
none_read : (text : List ℕ) (d : Desc) (fault : LangFault) → (Spells text d → GivesDescription (Err fault) d) → IsOfText fault → ¬ SpellsSound text d
none_read text d lang.NoMemory gives own found = own
none_read text d (lang.Syntax line) gives own found = gives found.0
none_read text d lang.TooLong gives own found = gives found.0
none_read text d lang.Version gives own found = gives found.0

pub unread_judged : (text : List ℕ) (d : Desc) (fault : LangFault) → ((other : Desc) → Spells text other → GivesDescription (Err fault) other) → (sound : Bool) → (sound ≡ false) × IsOfText fault → Judges text d sound
unread_judged text d fault gives sound said = subst (Judges text d) (sym said.0) (none_read text d fault (gives d) said.1)

-- ---- by a description that is the box's, and its canonical text

own_judged : (r : Request) (text : List ℕ) (d : Desc) (sound : Bool) → d ≡ boxed_desc r → text ≡ description_text d → Judges text d sound → Judges (boxed_text r) (boxed_desc r) sound
own_judged r text d sound own canonical judges =
    subst (λ e. Judges (description_text e) e sound) own (subst (λ t. Judges t d sound) canonical judges)

pub box_sound : (r : Request) (text : List ℕ) (d : Desc) (sound : Bool) → d ≡ boxed_desc r → text ≡ description_text d → Judges text d sound → sound ≡ true → IsSoundBox r
box_sound r text d sound own canonical judges is =
    subst (Judges (boxed_text r) (boxed_desc r)) is (own_judged r text d sound own canonical judges)

pub box_unsound : (r : Request) (text : List ℕ) (d : Desc) (sound : Bool) → d ≡ boxed_desc r → text ≡ description_text d → Judges text d sound → sound ≡ false → ¬ IsSoundBox r
box_unsound r text d sound own canonical judges is =
    subst (Judges (boxed_text r) (boxed_desc r)) is (own_judged r text d sound own canonical judges)
