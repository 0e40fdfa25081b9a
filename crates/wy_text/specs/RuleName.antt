-- How rules are printed.
use Rattle.std.specs.Prelude.{codes, ℕ, List}
use Rattle.wy_text.specs.declared.fault.RuleName.{RuleName}
use Rattle.wy_text.specs.declared.fault.RuleName.TheVariants as rule

abbrev pub rule_text : RuleName → List ℕ
rule_text rule.TLit = codes "T-Lit"
rule_text rule.TVar = codes "T-Var"
rule_text rule.TThis = codes "T-This"
rule_text rule.TCall = codes "T-Call"
rule_text rule.TNew = codes "T-New"
rule_text rule.TIf = codes "T-If"
rule_text rule.TSeq = codes "T-Seq"
rule_text rule.TVal = codes "T-Val"
rule_text rule.TSet = codes "T-Set"
rule_text rule.TOp = codes "T-Op"
rule_text rule.TAsc = codes "T-Asc"
rule_text rule.TBody = codes "T-Body"
rule_text rule.TSub = codes "T-Sub"
rule_text rule.MPure = codes "M-Pure"
rule_text rule.MAscribe = codes "M-Ascribe"
rule_text rule.MUse = codes "M-Use"
rule_text rule.MInst = codes "M-Inst"
rule_text rule.MImport = codes "M-Import"
rule_text rule.IImport = codes "I-Import"
rule_text rule.NUnknown = codes "N-Unknown"
rule_text rule.NTwice = codes "N-Twice"
rule_text rule.NCycle = codes "N-Cycle"
rule_text rule.NNoProgram = codes "N-NoProgram"
rule_text rule.NTwoPrograms = codes "N-TwoPrograms"
rule_text rule.NMemberUndefined = codes "N-MemberUndefined"
rule_text rule.NMemberUnknown = codes "N-MemberUnknown"
