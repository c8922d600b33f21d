-- Where the parts of both work areas begin while the relations are walked: each behind the one before it.
use Rattle.std.specs.Prelude.{ℕ, ◌+◌, ◌*◌}

-- "at most 2,048 name moves": how many nonterminal transitions the areas have places for
abbrev pub transition_limit : ℕ
transition_limit = 2048

-- ---- the 32-bit area

-- of each nonterminal transition the state that it leaves, its nonterminal, and the state that it enters
abbrev pub leaves_at : ℕ
leaves_at = 0

abbrev pub nonterminals_at : ℕ
nonterminals_at = leaves_at + transition_limit

abbrev pub enters_at : ℕ
enters_at = nonterminals_at + transition_limit

-- the first transition of each of 256 states, and the number of all
abbrev pub firsts_at : ℕ
firsts_at = enters_at + transition_limit

-- the symbol under which each state is entered
abbrev pub entering_at : ℕ
entering_at = firsts_at + 257

-- the states with a transition to each state: 256 bits, 32 to a number
abbrev pub predecessors_at : ℕ
predecessors_at = entering_at + 256

-- where the symbols of each of 128 productions begin
abbrev pub starts_at : ℕ
starts_at = predecessors_at + 8 * 256

-- the last occurrence of each of 60 nonterminals
abbrev pub lasts_at : ℕ
lasts_at = starts_at + 128

-- of each of 512 occurrences the production, the dot, and the one before it
abbrev pub productions_at : ℕ
productions_at = lasts_at + 60

abbrev pub dots_at : ℕ
dots_at = productions_at + 512

abbrev pub links_at : ℕ
links_at = dots_at + 512

-- how many occurrences there are
abbrev pub occurrences_at : ℕ
occurrences_at = links_at + 512

-- the shortest length of each of 60 nonterminals
abbrev pub lengths_at : ℕ
lengths_at = occurrences_at + 1

abbrev pub halves_end : ℕ
halves_end = lengths_at + 60

-- ---- the 64-bit area: from 0 on the sets of the nonterminal transitions

-- the numbers that the walk gives to them, and its stack
abbrev pub numbers_at : ℕ
numbers_at = transition_limit

abbrev pub stack_at : ℕ
stack_at = numbers_at + transition_limit

-- the terminals that each of 256 states shifts
abbrev pub shifts_at : ℕ
shifts_at = stack_at + transition_limit

abbrev pub words_end : ℕ
words_end = shifts_at + 256
