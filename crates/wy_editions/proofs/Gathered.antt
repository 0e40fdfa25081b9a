-- What the names that stand for types in items are, those in the items' declarations are.
use Rattle.std.proofs.Common.{ℕ, List, [], ◌∷◌}
use Rattle.wy_syntax.specs.Trees.{ItemTree, type_item, pure_item, resource_item, plain_item, program_item}
use Rattle.wy_symbols.specs.Declarations.{types_of, modules_of, programs_of}
use Rattle.wy_editions.proofs.TypeNames.{DeclsHave, ModulesHave, BlocksHave, ItemsHave}

pub decls_have : (Ok : List ℕ → Type 0) (items : List ItemTree) → ItemsHave Ok items → DeclsHave Ok (types_of items)
decls_have Ok [] h = tt
decls_have Ok (type_item d ∷ is) h = (h.0, decls_have Ok is h.1)
decls_have Ok (pure_item p n sealed inside ∷ is) h = decls_have Ok is h.1
decls_have Ok (resource_item p n params sealed inside ∷ is) h = decls_have Ok is h.1
decls_have Ok (plain_item p n params sealed parts ∷ is) h = decls_have Ok is h.1
decls_have Ok (program_item p grants uses lines started effect body ∷ is) h = decls_have Ok is h.1

-- a pure module has no parameters
pub modules_have : (Ok : List ℕ → Type 0) (items : List ItemTree) → ItemsHave Ok items → ModulesHave Ok (modules_of items)
modules_have Ok [] h = tt
modules_have Ok (type_item d ∷ is) h = modules_have Ok is h.1
modules_have Ok (pure_item p n sealed inside ∷ is) h = ((tt, h.0.0, h.0.1), modules_have Ok is h.1)
modules_have Ok (resource_item p n params sealed inside ∷ is) h = (h.0, modules_have Ok is h.1)
modules_have Ok (plain_item p n params sealed parts ∷ is) h = (h.0, modules_have Ok is h.1)
modules_have Ok (program_item p grants uses lines started effect body ∷ is) h = modules_have Ok is h.1

pub blocks_have : (Ok : List ℕ → Type 0) (items : List ItemTree) → ItemsHave Ok items → BlocksHave Ok (programs_of items)
blocks_have Ok [] h = tt
blocks_have Ok (type_item d ∷ is) h = blocks_have Ok is h.1
blocks_have Ok (pure_item p n sealed inside ∷ is) h = blocks_have Ok is h.1
blocks_have Ok (resource_item p n params sealed inside ∷ is) h = blocks_have Ok is h.1
blocks_have Ok (plain_item p n params sealed parts ∷ is) h = blocks_have Ok is h.1
blocks_have Ok (program_item p grants uses lines started effect body ∷ is) h = (h.0, blocks_have Ok is h.1)
