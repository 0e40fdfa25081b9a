-- Which files a call read, and what the texts of its files are.
use Rattle.std.proofs.Common.{◌≡◌, ◌≢◌, ◌≤◌, ℕ, List, [], ◌∷◌, Option, Some, None, true, false, refl, sym, ◌∙◌, ap, subst, arith, length, take, is_some}
use Rattle.std.specs.Option.{option_map}
use Rattle.std.proofs.lemmas.List.{append-nil}
use Rattle.std.proofs.Math.Seq.{take-length}
use Rattle.wy_text.specs.Outside.{gained, Rose}
use Rattle.wy_text.specs.Shelf.{ShelfState}
use Rattle.wy_text.specs.declared.limit.LimitName.TheVariants as limit
use Rattle.wy_engine.specs.Reading.{ReadsWell}
use Rattle.wy_sample.specs.Sample.{sample_text}
use Rattle.wy_settings.specs.Settings.{Settings, sample_number, takes}
use Rattle.wy_engine.specs.Texts.{AreTexts, GivesFiles, HasTexts, first_bytes, sampled}
use Rattle.wy_engine.specs.TopCall.{IsSet, ReadsFiles, ReadsFor, ReadsInOrder, TopCall, most_files, reads_of, takes_files}
use Rattle.wy_settings.specs.declared.command_line.Command.{Command}
use Rattle.wy_settings.specs.declared.command_line.Command.TheVariants as command
use Rattle.wy_engine.specs.declared.status.Status.TheVariants as status
use Rattle.wy_engine.proofs.Statuses.{IsPastReading}

pub same_settings : (call : TopCall) (one other : Settings) → IsSet call one → IsSet call other → one ≡ other
same_settings call one other a b = let e : Some one ≡ Some other = sym a ∙ b in cc

pub reads_by : (call : TopCall) (settings : Settings) → IsSet call settings → length settings.files ≤ most_files → call.status ≢ status.Limit limit.Files
    → ReadsFor settings.command call settings.files → ((file : ℕ) → call.status ≡ status.Unread file → Rose call.shelf.faults call.shelf_after.faults) → ReadsFiles call
reads_by call settings set few uncrowded order counted = record {
  faulty = λ none. let q : Some settings ≡ None = sym set ∙ none in absurd (cc);
  crowd = λ is. absurd (uncrowded is);
  crowded = λ other same many. let h : length other.files ≤ most_files = subst (λ (s : Settings). length s.files ≤ most_files) (same_settings call settings other set same) few in absurd (omega arith);
  reads = λ other same small. subst (λ (s : Settings). ReadsFor s.command call s.files) (same_settings call settings other set same) order;
  counted = counted;
}

pub is_sample : (asked : Command) → takes_files asked ≡ false → asked ≡ command.Sample
is_sample command.Check none = absurd (cc)
is_sample command.Authority none = absurd (cc)
is_sample command.Run none = absurd (cc)
is_sample command.Trace none = absurd (cc)
is_sample command.Observe none = absurd (cc)
is_sample command.Sample none = refl
is_sample command.Format none = absurd (cc)
is_sample command.Policy none = absurd (cc)
is_sample command.Certify none = absurd (cc)
is_sample command.Recheck none = absurd (cc)

pub reads_for : (asked : Command) (call : TopCall) (names : List (List ℕ)) → takes_files asked ≡ true → ReadsInOrder call names → ReadsFor asked call names
reads_for command.Check call names takes order = order
reads_for command.Authority call names takes order = order
reads_for command.Run call names takes order = order
reads_for command.Trace call names takes order = order
reads_for command.Observe call names takes order = order
reads_for command.Sample call names takes order = absurd (cc)
reads_for command.Format call names takes order = order
reads_for command.Policy call names takes order = order
reads_for command.Certify call names takes order = order
reads_for command.Recheck call names takes order = order

-- what was read are the texts of a command that has files
texts_read : (asked : Command) (shelf : ShelfState) (names texts : List (List ℕ)) → takes_files asked ≡ true → GivesFiles (first_bytes asked) shelf names texts → AreTexts asked shelf names texts
texts_read command.Check shelf names texts takes gives = gives
texts_read command.Authority shelf names texts takes gives = gives
texts_read command.Run shelf names texts takes gives = gives
texts_read command.Trace shelf names texts takes gives = gives
texts_read command.Observe shelf names texts takes gives = gives
texts_read command.Sample shelf names texts takes gives = absurd (cc)
texts_read command.Format shelf names texts takes gives = gives
texts_read command.Policy shelf names texts takes gives = gives
texts_read command.Certify shelf names texts takes gives = gives
texts_read command.Recheck shelf names texts takes gives = gives

-- the text that the number of a sample makes
pub record SampleMade (names : List (List ℕ)) : Type 0 where
  pub texts : List (List ℕ)
  pub is : sampled names ≡ Some texts

pub sample_made : (asked : Command) (names : List (List ℕ)) → asked ≡ command.Sample → takes asked names ≡ true → SampleMade names
sample_made asked names sample fits = by (sample_number names) refl (subst (λ (c : Command). takes c names ≡ true) sample fits)
  where
    by : (o : Option ℕ) → sample_number names ≡ o → is_some {T = ℕ} (sample_number names) ≡ true → SampleMade names
    by None is some = let q : is_some {T = ℕ} None ≡ true = sym (ap (λ (o : Option ℕ). is_some o) is) ∙ some in absurd (cc)
    by (Some n) is some = record { texts = sample_text n ∷ []; is = ap (option_map (λ number. sample_text number ∷ [])) is }

-- how the texts of a call came: they were read, or the number of a sample made them
pub data Came (call : TopCall) (settings : Settings) (read : List (List ℕ)) : Type 0 where
  read_well : takes_files settings.command ≡ true → ReadsWell (first_bytes settings.command) settings.files (length settings.files) call.shelf call.shelf_after read → Came call settings read
  made : settings.command ≡ command.Sample → call.shelf_after ≡ call.shelf → sampled settings.files ≡ Some read → Came call settings read

-- all texts came
pub reads_all : (call : TopCall) (settings : Settings) (texts : List (List ℕ)) → IsSet call settings → length settings.files ≤ most_files
    → Came call settings texts → IsPastReading call.status → ReadsFiles call
reads_all call settings texts set few (read_well takes so) past = reads_by call settings set few past.crowd (reads_for settings.command call settings.files takes (record {
  well = length settings.files;
  badly = [];
  reads = so.reads ∙ ap (λ x. gained call.shelf.reads x) (sym (append-nil (reads_of false (take (length settings.files) settings.files))));
  unread = λ file is. absurd (past.unread file is);
  others = λ none. refl;
  all = λ full none. refl;
})) (λ file is. absurd (past.unread file is))
reads_all call settings texts set few (made asked shelf is) past = reads_by call settings set few past.crowd
    (subst (λ (c : Command). ReadsFor c call settings.files) (sym asked) (record { shelf = shelf; unread = past.unread }))
    (λ file is. absurd (past.unread file is))

-- .. and these are the texts of the call
pub came_texts : (call : TopCall) (settings : Settings) (texts : List (List ℕ)) → IsSet call settings → length settings.files ≤ most_files → Came call settings texts → HasTexts call settings texts
came_texts call settings texts set few (read_well takes so) = record {
  set = set;
  few = few;
  are = texts_read settings.command call.shelf settings.files texts takes (subst (λ x. GivesFiles (first_bytes settings.command) call.shelf x texts) (take-length settings.files) so.gives);
}
came_texts call settings texts set few (made asked shelf is) = record {
  set = set;
  few = few;
  are = subst (λ (c : Command). AreTexts c call.shelf settings.files texts) (sym asked) is;
}
