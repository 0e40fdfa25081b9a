-- The program that `sample` makes of a number, and the line that sums its run up. (docs/LANGUAGE.md, "Samples")
use Rattle.std.specs.Prelude.{codes, ℕ, ◌-◌, List, ◌++◌}
use Rattle.std.specs.Fmt.{decimal}
use Rattle.std.specs.List.{flat_map, range_with_len}

-- the type that all modules are sealed at
abbrev pub step_type : List ℕ
step_type =
    codes "type Step\n" ++
    codes "  effect E\n" ++
    codes "  def go(t: Int): {E} Int\n"

-- the first module writes its name and adds 1
abbrev pub first_module : List ℕ
first_module =
    codes "resource module m1(c: Console): Step\n" ++
    codes "  effect E = {c.Out}\n" ++
    codes "  def go(t: Int): {E} Int\n" ++
    codes "    c.write(\"m1\\n\")\n" ++
    codes "    t + 1\n"

-- a module from the second on adds its number to what the instance that it is handed gives
abbrev pub later_module : ℕ → List ℕ
later_module number =
    codes "resource module m" ++ (decimal number ++ (codes "(s: Step): Step\n" ++
    (codes "  effect E = {s.E}\n" ++
    (codes "  def go(t: Int): {E} Int = s.go(t) + " ++ (decimal number ++ codes "\n")))))

-- the program's block begins with its grant and the first instance
abbrev pub block_head : List ℕ
block_head =
    codes "program\n" ++
    codes "  grant console: Console\n" ++
    codes "  instance x1 = m1(console)\n"

-- an instance from the second on is handed the one before it
abbrev pub later_instance : ℕ → List ℕ
later_instance number =
    codes "  instance x" ++ (decimal number ++ (codes " = m" ++ (decimal number ++ (codes "(x" ++ (decimal (number - 1) ++ codes ")\n")))))

-- it calls the last instance, and writes what that gives
abbrev pub block_end : ℕ → List ℕ
block_end last =
    codes "  run: {console.Out, x" ++ (decimal last ++ (codes ".E}\n" ++
    (codes "    console.write(text_show(x" ++ (decimal last ++ codes ".go(0)) ++ \"\\n\")\n"))))

-- the numbers from 2 on, up to the last one
abbrev pub later_numbers : ℕ → List ℕ
later_numbers last = range_with_len 2 (last - 1)

-- the program of so many modules, of at least one: the type, the modules, and the block with an instance of each
abbrev pub sample_text : ℕ → List ℕ
sample_text last =
    step_type ++ first_module ++ flat_map later_module (later_numbers last) ++
    block_head ++ flat_map later_instance (later_numbers last) ++ block_end last

-- a sample's number, how many instances it has, and how many lines of bodies are in its report
abbrev pub summary_line : ℕ → ℕ → List ℕ
summary_line number bodies =
    codes "sample " ++ (decimal number ++ (codes ": instances " ++ (decimal number ++ (codes ", bodies " ++ (decimal bodies ++ codes "\n")))))
