-- What answering texts does, before it is known which words named them.
use Rattle.std.specs.Prelude.{◌≡◌, ◌⊎◌, ℕ, List, [], ◌∷◌, Some, None, true, false}
use Rattle.wy_text.specs.Outside.{SinkState}
use Rattle.wy_text.specs.declared.limit.LimitName.{LimitName}
use Rattle.wy_device.specs.Devices.{DevicesState}
use Rattle.wy_syntax.specs.Canonical.{canonical_form}
use Rattle.wy_syntax.specs.Trees.{ItemTree}
use Rattle.wy_symbols.specs.Declarations.{all_items}
use Rattle.wy_names.specs.Names.{Refused, Resolves}
use Rattle.wy_names.specs.declared.refusal.NameRefusal.{NameRefusal}
use Rattle.wy_types.specs.Program.{Program}
use Rattle.wy_rules.specs.Ends.{IsAccepted}
use Rattle.wy_judge.specs.Checking.{IsRefusalOf}
use Rattle.wy_judge.specs.declared.checking.CheckRefusal.{CheckRefusal}
use Rattle.wy_judge.specs.declared.checking.CheckRefusal.TheVariants as refusal
use Rattle.wy_lower.specs.Counts.{lowering_limit}
use Rattle.wy_authority.specs.Authority.{authority_of}
use Rattle.wy_policy.specs.Allowed.{Allowed}
use Rattle.wy_policy.specs.Policy.{IsPolicy}
use Rattle.wy_policy.specs.declared.policy.PolicyRefusal.{PolicyRefusal}
use Rattle.wy_policy.specs.declared.policy.PolicyRefusal.TheVariants as unread
use Rattle.wy_policy.specs.declared.policy.PolicyRow.{PolicyRow}
use Rattle.wy_sound.specs.Programs.{program_starts}
use Rattle.wy_certify.specs.NotCertified as certifying
use Rattle.wy_certify.specs.Certificates.{IsCertified}
use Rattle.wy_certify.specs.declared.certifying.CertifyRefusal.{CertifyRefusal}
use Rattle.wy_certify.specs.declared.certifying.CertifyRefusal.TheVariants as overlong
use Rattle.wy_recheck.specs.ProvedBy as rechecking
use Rattle.wy_recheck.specs.ProvedBy.{IsProvedBy}
use Rattle.wy_recheck.specs.declared.rechecking.CertRefusal.{CertRefusal}
use Rattle.wy_recheck.specs.declared.rechecking.CertRefusal.TheVariants as disproof
use Rattle.wy_engine.specs.Certificates.{ProvesTexts, proved_text}
use Rattle.wy_engine.specs.FileTrees.{HaveTrees}
use Rattle.wy_engine.specs.Folders.{StopsCall, fit_program}
use Rattle.wy_engine.specs.Judgement.{IsNumbered, KeepsToPolicy, Refuses, Runnable, accepted_text, allowed_text, authority_text, running}
use Rattle.wy_engine.specs.Passing.{Passes}
use Rattle.wy_engine.specs.NameFaults.{names_status}
use Rattle.wy_engine.specs.Running.{Ran}
use Rattle.wy_engine.specs.Writing.{Wrote}
use Rattle.wy_engine.specs.declared.running.Mode.{Mode}
use Rattle.wy_settings.specs.Folders.{GivenFolder}
use Rattle.wy_settings.specs.Settings.{Settings}
use Rattle.wy_settings.specs.declared.command_line.Command.TheVariants as command
use Rattle.wy_engine.specs.declared.status.Status.{Status}
use Rattle.wy_engine.specs.declared.status.Status.TheVariants as status

-- the status of a call whose program is not accepted
abbrev pub check_status : CheckRefusal → Status
check_status (refusal.Fails fault) = status.Refused fault
check_status (refusal.Limit name) = status.Limit name
check_status refusal.Memory = status.Memory

-- trees do not pass: their names are refused, or their program is not accepted; and this is the status that it gives
pub data FailsCheck (trees : List (List ItemTree)) (end : Status) : Type 0 where
  nameless : (why : NameRefusal) → Refused (all_items trees) why → end ≡ names_status why → FailsCheck trees end
  not_accepted : (program : Program) → Resolves (all_items trees) program → (why : CheckRefusal) → IsRefusalOf program why → end ≡ check_status why → FailsCheck trees end

-- what checking trees did: nothing, since they do not pass; or what is to be said of their program was written
pub data ChecksTrees (text : Program → List ℕ) (trees : List (List ItemTree)) (out out' : SinkState) (end : Status) : Type 0 where
  fails : FailsCheck trees end → out' ≡ out → ChecksTrees text trees out out' end
  accepted : (program : Program) → Resolves (all_items trees) program → IsAccepted program → Wrote (text program) out out' end → ChecksTrees text trees out out' end

-- the status of a call whose policy is refused
abbrev pub policy_status : PolicyRefusal → Status
policy_status (unread.Limit name) = status.Limit name
policy_status (unread.BadPolicy line) = status.BadPolicy line
policy_status unread.Memory = status.Memory

-- what judging an accepted program by a policy did: nothing, since memory was wanting or it does not keep to it; or it was
-- said that it does
pub data JudgesByPolicy (policy : List ℕ) (program : Program) (out out' : SinkState) (end : Status) : Type 0 where
  unjudged : end ≡ status.Memory → out' ≡ out → JudgesByPolicy policy program out out' end
  denied : Refuses policy (authority_of program) end → out' ≡ out → JudgesByPolicy policy program out out' end
  kept : (rows : List PolicyRow) → IsPolicy policy rows → Allowed rows (authority_of program) → Wrote allowed_text out out' end → JudgesByPolicy policy program out out' end

-- .. and trees: nothing, since they do not pass; or their program was accepted
pub data JudgesTreesByPolicy (policy : List ℕ) (trees : List (List ItemTree)) (out out' : SinkState) (end : Status) : Type 0 where
  unaccepted : FailsCheck trees end → out' ≡ out → JudgesTreesByPolicy policy trees out out' end
  judged : (program : Program) → Resolves (all_items trees) program → IsAccepted program → JudgesByPolicy policy program out out' end
      → JudgesTreesByPolicy policy trees out out' end

-- the status of a call that writes no certificate
abbrev pub certify_status : CertifyRefusal → Status
certify_status (overlong.Limit name) = status.Limit name
certify_status overlong.Memory = status.Memory

-- what certifying trees did: nothing, since they do not pass, or no certificate is given; or the program's certificate was written
pub data CertifiesTrees (trees : List (List ItemTree)) (out out' : SinkState) (end : Status) : Type 0 where
  uncertified : FailsCheck trees end → out' ≡ out → CertifiesTrees trees out out' end
  overlong_for : (program : Program) → Resolves (all_items trees) program → IsAccepted program → (why : CertifyRefusal) → certifying.IsRefusedBy program why → end ≡ certify_status why → out' ≡ out
      → CertifiesTrees trees out out' end
  certified_trees : (program : Program) → Resolves (all_items trees) program → IsAccepted program → (text : List ℕ) → IsCertified program text → Wrote text out out' end → CertifiesTrees trees out out' end

-- the status of a call whose certificate does not prove the program
abbrev pub recheck_status : CertRefusal → Status
recheck_status (disproof.BadCert at) = status.BadCert at
recheck_status (disproof.Unproved scope test index) = status.Unproved scope test index
recheck_status disproof.Memory = status.Memory

-- what rechecking trees by a certificate did: nothing, since the names are refused, or it does not prove the program; or it was said
-- that it does
pub data RechecksTrees (bytes : List ℕ) (trees : List (List ItemTree)) (out out' : SinkState) (end : Status) : Type 0 where
  unnamed : (why : NameRefusal) → Refused (all_items trees) why → end ≡ names_status why → out' ≡ out → RechecksTrees bytes trees out out' end
  disproved : (program : Program) → Resolves (all_items trees) program → (why : CertRefusal) → rechecking.IsRefusedBy program bytes why → end ≡ recheck_status why → out' ≡ out
      → RechecksTrees bytes trees out out' end
  proved_trees : (program : Program) → Resolves (all_items trees) program → IsProvedBy program bytes → Wrote proved_text out out' end → RechecksTrees bytes trees out out' end

-- What running an accepted program did: nothing, since its code passes a limit, or a folder is not for one of its grants, or memory ran
-- out; or it was run.
pub data RunsAccepted (way : Mode) (program : Program) (folders : List GivenFolder) (depth steps : ℕ) (out out' report report' : SinkState) (devices devices' : DevicesState) (end : Status) : Type 0 where
  limited : (name : LimitName) → lowering_limit program (program_starts program) ≡ Some name → end ≡ status.Limit name → out' ≡ out → report' ≡ report → devices' ≡ devices
      → RunsAccepted way program folders depth steps out out' report report' devices devices' end
  wanting : end ≡ status.Memory → out' ≡ out → report' ≡ report → devices' ≡ devices → RunsAccepted way program folders depth steps out out' report report' devices devices' end
  lacking : lowering_limit program (program_starts program) ≡ None → fit_program program folders ≡ false → end ≡ status.Usage → out' ≡ out → report' ≡ report → devices' ≡ devices
      → RunsAccepted way program folders depth steps out out' report report' devices devices' end
  ran_program : lowering_limit program (program_starts program) ≡ None → fit_program program folders ≡ true → Ran way program depth steps out out' report report' devices devices' end
      → RunsAccepted way program folders depth steps out out' report report' devices devices' end

-- .. and with trees: nothing, since they do not pass; or their program was accepted
pub data RunsTrees (way : Mode) (trees : List (List ItemTree)) (folders : List GivenFolder) (depth steps : ℕ) (out out' report report' : SinkState) (devices devices' : DevicesState) (end : Status) : Type 0 where
  fails_check : FailsCheck trees end → out' ≡ out → report' ≡ report → devices' ≡ devices → RunsTrees way trees folders depth steps out out' report report' devices devices' end
  accepted_trees : (program : Program) → Resolves (all_items trees) program → IsAccepted program → RunsAccepted way program folders depth steps out out' report report' devices devices' end
      → RunsTrees way trees folders depth steps out out' report report' devices devices' end

-- what was done with texts: nothing, since memory was wanting or they stop the call; it was said that they are accepted;
-- the report of what their program may do was written; a program was run; the canonical form of a file was written; it was said
-- that a program keeps to its policy; a program's certificate was written; or it was said that one proves a program
pub data Answered (asked : Settings) (texts : List (List ℕ)) (out out' report report' : SinkState) (devices devices' : DevicesState) (end : Status) : Type 0 where
  declined : (end ≡ status.Memory) ⊎ StopsCall asked texts end → out' ≡ out → report' ≡ report → devices' ≡ devices
      → Answered asked texts out out' report report' devices devices' end
  checked : (program : Program) → asked.command ≡ command.Check → Passes texts program → Wrote accepted_text out out' end → report' ≡ report → devices' ≡ devices
      → Answered asked texts out out' report report' devices devices' end
  reported : (program : Program) → asked.command ≡ command.Authority → Passes texts program → Wrote (authority_text program) out out' end → report' ≡ report → devices' ≡ devices
      → Answered asked texts out out' report report' devices devices' end
  ran : (program : Program) (way : Mode) → asked.command ≡ running way → IsNumbered way asked.files → Runnable texts program → fit_program program asked.folders ≡ true → Ran way program asked.depth asked.steps out out' report report' devices devices' end
      → Answered asked texts out out' report report' devices devices' end
  formatted : (tree : List ItemTree) → asked.command ≡ command.Format → HaveTrees 1 texts (tree ∷ []) → Wrote (canonical_form tree) out out' end → report' ≡ report → devices' ≡ devices
      → Answered asked texts out out' report report' devices devices' end
  permitted : asked.command ≡ command.Policy → KeepsToPolicy texts → Wrote allowed_text out out' end → report' ≡ report → devices' ≡ devices
      → Answered asked texts out out' report report' devices devices' end
  certified : (program : Program) (text : List ℕ) → asked.command ≡ command.Certify → Passes texts program → IsCertified program text → Wrote text out out' end → report' ≡ report → devices' ≡ devices
      → Answered asked texts out out' report report' devices devices' end
  proved : (program : Program) → asked.command ≡ command.Recheck → ProvesTexts texts program → Wrote proved_text out out' end → report' ≡ report → devices' ≡ devices
      → Answered asked texts out out' report report' devices devices' end
