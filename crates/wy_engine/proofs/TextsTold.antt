-- What a call did with the texts that were read is what the rules say of the files that its shelf tells.
use Rattle.std.proofs.Common.{◌≡◌, ◌≢◌, ◌⊎◌, inl, inr, ◌<◌, ◌≤◌, ℕ, List, None, Some, refl, sym, ◌∙◌, ap, subst, arith, length}
use Rattle.wy_text.specs.Shelf.{ShelfState}
use Rattle.wy_text.specs.declared.limit.LimitName.TheVariants as limit
use Rattle.wy_certify.specs.CertificateLaws.{OneSize}
use Rattle.wy_settings.specs.Settings.{Settings, settings_of}
use Rattle.wy_settings.specs.declared.command_line.Command.{Command}
use Rattle.wy_settings.specs.declared.command_line.Command.TheVariants as command
use Rattle.wy_well_formed.specs.WellFormed.{ResolvedIsCore}
use Rattle.wy_engine.specs.Folders.{AsksCall, StopsCall, by_files, by_folders}
use Rattle.wy_engine.specs.Given.{AreTold, IsGiven, TextsAreTold}
use Rattle.wy_engine.specs.Headline.{Accepts, Answers, Does, IsTextless, Settles, answered, textless}
use Rattle.wy_engine.specs.Judgement.{Asks, Did, certified, checked, formatted, nothing, permitted, proved, ran, reported}
use Rattle.wy_engine.specs.Status.{IsOfRun}
use Rattle.wy_engine.specs.Texts.{AreTexts, first_bytes}
use Rattle.wy_engine.specs.TopCall.{TopCall, most_files}
use Rattle.wy_engine.specs.declared.status.Status.{Status}
use Rattle.wy_engine.specs.declared.status.Status.TheVariants as status
use Rattle.wy_engine.proofs.FilesRead.{same_settings}
use Rattle.wy_engine.proofs.Givens.{IsTextOf, cut_texts, keeps_read, passes_read, proves_read, runnable_read, stops_read, tree_read}
use Rattle.wy_engine.proofs.Statuses.{ends_by_texts, memory_or, out_run}
use Rattle.wy_engine.proofs.TextsAnswered.{accepts_done, accepts_stopped}

-- ---- the texts that were read, and those that the shelf tells

is_text_of : (asked : Command) (shelf : ShelfState) (names read texts : List (List ℕ)) → AreTexts asked shelf names read → AreTold asked shelf names texts → IsTextOf asked read texts
is_text_of command.Check shelf names read texts gives told = inl (cut_texts (first_bytes command.Check) shelf told.files names read texts told.told gives told.found)
is_text_of command.Authority shelf names read texts gives told = inl (cut_texts (first_bytes command.Authority) shelf told.files names read texts told.told gives told.found)
is_text_of command.Run shelf names read texts gives told = inl (cut_texts (first_bytes command.Run) shelf told.files names read texts told.told gives told.found)
is_text_of command.Trace shelf names read texts gives told = inl (cut_texts (first_bytes command.Trace) shelf told.files names read texts told.told gives told.found)
is_text_of command.Observe shelf names read texts gives told = inl (cut_texts (first_bytes command.Observe) shelf told.files names read texts told.told gives told.found)
is_text_of command.Format shelf names read texts gives told = inl (cut_texts (first_bytes command.Format) shelf told.files names read texts told.told gives told.found)
is_text_of command.Policy shelf names read texts gives told = inl (cut_texts (first_bytes command.Policy) shelf told.files names read texts told.told gives told.found)
is_text_of command.Certify shelf names read texts gives told = inl (cut_texts (first_bytes command.Certify) shelf told.files names read texts told.told gives told.found)
is_text_of command.Recheck shelf names read texts gives told = inl (cut_texts (first_bytes command.Recheck) shelf told.files names read texts told.told gives told.found)
is_text_of command.Sample shelf names read texts made told = let same : Some read ≡ Some texts = sym made ∙ told in inr (cc)

-- what a command does with the texts that were read it does with those
asks_read : (asked : Command) (read texts : List (List ℕ)) (did : Did) → IsTextOf asked read texts → Asks asked read did → Asks asked texts did
asks_read command.Check read texts checked of asks = (asks.0, passes_read command.Check read texts asks.0 refl of asks.1)
asks_read command.Authority read texts (reported program) of asks = passes_read command.Authority read texts program refl of asks
asks_read command.Run read texts (ran program) of asks = runnable_read command.Run read texts program refl of asks
asks_read command.Trace read texts (ran program) of asks = runnable_read command.Trace read texts program refl of asks
asks_read command.Sample read texts (ran program) of asks = runnable_read command.Sample read texts program refl of asks
asks_read command.Observe read texts (ran program) of asks = runnable_read command.Observe read texts program refl of asks
asks_read command.Format read texts (formatted tree) of asks = tree_read command.Format read texts tree refl of asks
asks_read command.Policy read texts permitted of asks = keeps_read command.Policy read texts refl of asks
asks_read command.Certify read texts (certified program) of asks = record { passes = passes_read command.Certify read texts program refl of asks.passes; bytes = asks.bytes; is = asks.is }
asks_read command.Recheck read texts (proved program) of asks = proves_read command.Recheck read texts program refl of asks
asks_read asked read texts did of asks = absurd asks

-- .. which is something
asks_something : (asked : Command) (texts : List (List ℕ)) → Asks asked texts nothing → ⊥
asks_something command.Check texts asks = asks
asks_something command.Authority texts asks = asks
asks_something command.Run texts asks = asks
asks_something command.Trace texts asks = asks
asks_something command.Sample texts asks = asks
asks_something command.Observe texts asks = asks
asks_something command.Format texts asks = asks
asks_something command.Policy texts asks = asks
asks_something command.Certify texts asks = asks
asks_something command.Recheck texts asks = asks

-- ---- statuses

-- a call that did something has a status of a run
did_run : (call : TopCall) (did : Did) → (did ≡ nothing → ⊥) → Does call did → IsOfRun call.status
did_run call nothing some does = absurd (some refl)
did_run call checked some does = out_run call.status does.reached
did_run call (reported program) some does = out_run call.status does.reached
did_run call (ran program) some does = does.reached
did_run call (formatted tree) some does = out_run call.status does.reached
did_run call permitted some does = out_run call.status does.reached
did_run call (certified program) some does = out_run call.status does.2.reached
did_run call (proved program) some does = out_run call.status does.1.reached

textless_is : (words : List (List ℕ)) (s : Status) → IsTextless words s
    → (s ≡ status.Memory) ⊎ ((settings_of words ≡ None) ⊎ ((s ≡ status.Limit limit.Files) ⊎ ((file : ℕ) × (s ≡ status.Unread file))))
textless_is words status.Memory is = inl refl
textless_is words status.Usage is = inr (inl is)
textless_is words (status.Limit name) is = inr (inr (inl (ap (λ n. status.Limit n) is)))
textless_is words (status.Unread file) is = inr (inr (inr (file, refl)))
textless_is words other is = absurd is

-- ---- the law

-- what ends a call by what was read of its files ends it by them
stops_call_read : (asked : Settings) (read texts : List (List ℕ)) (end : Status) → IsTextOf asked.command read texts → StopsCall asked read end → StopsCall asked texts end
stops_call_read asked read texts end of (by_files stops) = by_files (stops_read asked.command read texts end of stops)
stops_call_read asked read texts end of (by_folders lacks is) =
    by_folders (record { program = lacks.program; runs = asks_read asked.command read texts (ran lacks.program) of lacks.runs; lacks = lacks.lacks }) is

asks_call_read : (asked : Settings) (read texts : List (List ℕ)) (did : Did) → IsTextOf asked.command read texts → AsksCall asked read did → AsksCall asked texts did
asks_call_read asked read texts did of asks = record { files = asks_read asked.command read texts did of asks.files; folders = asks.folders }

module _ (law : ResolvedIsCore) (size : OneSize) (call : TopCall) (settles : Settles call) where
  accepts_nothing : (asked : Settings) (texts : List (List ℕ)) → settles.did ≡ nothing → (call.status ≡ status.Memory) ⊎ StopsCall asked texts call.status → Accepts call asked settles.did texts
  accepts_nothing asked texts none why = subst (λ (d : Did). Accepts call asked d texts) (sym none) (accepts_stopped law size call asked texts why)

  accepts_told : (asked : Settings) (read texts : List (List ℕ)) → IsTextOf asked.command read texts → ((file : ℕ) → call.status ≢ status.Unread file)
      → Accepts call asked settles.did read → Accepts call asked settles.did texts
  accepts_told asked read texts of unread accepts =
      elim accepts.done [
        | inl none ↦ elim (memory_or call.status) [
          | inl memory ↦ accepts_nothing asked texts none (inl memory)
          | inr full ↦
              let idle : ¬ IsOfRun call.status = (subst (λ (d : Did). Does call d) none settles.does).1 full in
              accepts_nothing asked texts none (inr (stops_call_read asked read texts call.status of (accepts.stopped (ends_by_texts call.status unread idle))))
        ]
        | inr asks ↦ accepts_done law size call asked settles.did texts (asks_call_read asked read texts settles.did of asks)
            (did_run call settles.did (λ none. asks_something asked.command read (subst (λ (d : Did). Asks asked.command read d) none asks.files)) settles.does)
      ]

  -- .. of a call to which not all texts came
  accepts_textless : (asked : Settings) (texts : List (List ℕ)) → IsGiven call asked texts → ((file : ℕ) → call.status ≢ status.Unread file) → settles.did ≡ nothing
      → (call.status ≡ status.Memory) ⊎ ((settings_of call.words ≡ None) ⊎ ((call.status ≡ status.Limit limit.Files) ⊎ ((file : ℕ) × (call.status ≡ status.Unread file)))) → Accepts call asked settles.did texts
  accepts_textless asked texts given unread none (inl memory) = accepts_nothing asked texts none (inl memory)
  accepts_textless asked texts given unread none (inr (inl usage)) = let q : Some asked ≡ None = sym given.set ∙ usage in absurd (cc)
  accepts_textless asked texts given unread none (inr (inr (inl crowd))) = absurd (not_many asked.files given.few (settles.reads.crowd crowd asked given.set))
    where
      not_many : (files : List (List ℕ)) → length files ≤ most_files → most_files < length files → ⊥
      not_many files few many = omega arith
  accepts_textless asked texts given unread none (inr (inr (inr not_read))) = absurd (unread not_read.0 not_read.1)

  texts_told_by : (asked : Settings) (texts : List (List ℕ)) → IsGiven call asked texts → ((file : ℕ) → call.status ≢ status.Unread file) → Answers call settles.did → Accepts call asked settles.did texts
  texts_told_by asked texts given unread (textless without none) = accepts_textless asked texts given unread none (textless_is call.words call.status without)
  texts_told_by asked texts given unread (answered other read has accepts) =
      let e : other ≡ asked = same_settings call other asked has.set given.set in
      let are : AreTexts asked.command call.shelf asked.files read = subst (λ (s : Settings). AreTexts s.command call.shelf s.files read) e has.are in
      accepts_told asked read texts (is_text_of asked.command call.shelf asked.files read texts are given.are) unread
      (subst (λ (s : Settings). Accepts call s settles.did read) e accepts)

pub texts_told : ResolvedIsCore → OneSize → TextsAreTold
texts_told law size call settles asked texts given unread = texts_told_by law size call settles asked texts given unread settles.answers
