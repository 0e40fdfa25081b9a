-- The limits' names as they are printed, and their numbers.
use Rattle.std.specs.Prelude.{codes, ℕ, List}
use Rattle.wy_text.specs.declared.limit.LimitName.{LimitName}
use Rattle.wy_text.specs.declared.limit.LimitName.TheVariants as limit

abbrev pub limit_text : LimitName → List ℕ
limit_text limit.Files = codes "files"
limit_text limit.FileBytes = codes "file bytes"
limit_text limit.NameBytes = codes "name bytes"
limit_text limit.Tokens = codes "tokens"
limit_text limit.Indents = codes "indents"
limit_text limit.Marks = codes "marks"
limit_text limit.Types = codes "types"
limit_text limit.Modules = codes "modules"
limit_text limit.Grants = codes "grants"
limit_text limit.Methods = codes "methods"
limit_text limit.Fields = codes "fields"
limit_text limit.Parameters = codes "parameters"
limit_text limit.Atoms = codes "atoms"
limit_text limit.ReachedTypes = codes "reached types"
limit_text limit.Instances = codes "instances"
limit_text limit.Bodies = codes "bodies"
limit_text limit.Slots = codes "slots"
limit_text limit.ImageBytes = codes "image bytes"
limit_text limit.CertificateBytes = codes "certificate bytes"
limit_text limit.PolicyRows = codes "policy rows"

abbrev pub limit_number : LimitName → ℕ
limit_number limit.Files = 64
limit_number limit.FileBytes = 1048576
limit_number limit.NameBytes = 64
limit_number limit.Tokens = 262144
limit_number limit.Indents = 64
limit_number limit.Marks = 128
limit_number limit.Types = 1024
limit_number limit.Modules = 256
limit_number limit.Grants = 64
limit_number limit.Methods = 128
limit_number limit.Fields = 128
limit_number limit.Parameters = 16
limit_number limit.Atoms = 512
limit_number limit.ReachedTypes = 1024
limit_number limit.Instances = 1024
limit_number limit.Bodies = 16384
limit_number limit.Slots = 256
limit_number limit.ImageBytes = 16777216
limit_number limit.CertificateBytes = 67108864
limit_number limit.PolicyRows = 4096
