-- The text of what is found. The calls cs are those of the instances.
use Rattle.std.specs.Prelude.{not, ℕ, zero, suc, ◌+◌, ℤ, pos, Bool, true, false, nat_lt, ◌==◌, ◌&&◌, ◌||◌, List, [], ◌∷◌, ◌++◌, codes, length, flat_map, Option, Some, None, slice_get, slice_index_or}
use Rattle.std.specs.List.{list_any}
use Rattle.std.specs.Fmt.{decimal, signed_decimal}
use Rattle.std.specs.Ordering.{int_eq}
use Rattle.txn_programs.specs.declared.arguments.Call.{Call}
use Rattle.txn_programs.specs.Listing.{Listing, always_name}
use Rattle.explore_law.specs.declared.found.End.{End}
use Rattle.explore_law.specs.declared.found.Kinds.{Kinds}
use Rattle.explore_law.specs.declared.found.Found.{Found}
use Rattle.explore_law.specs.Instances.{instances}
use Rattle.text_report_printer.specs.Names.{transaction_name, value_name}
use Rattle.text_words.specs.Words.{line}

-- the text where that is so
abbrev pub only : Bool → List ℕ → List ℕ
only true text = text
only false text = []

-- the texts of the numbers below n, in turn
abbrev pub each_below : (ℕ → List ℕ) → ℕ → List ℕ
each_below text zero = []
each_below text (suc n) = each_below text n ++ text n

-- it is so of some number below n
abbrev pub some_below : (ℕ → Bool) → ℕ → Bool
some_below so zero = false
some_below so (suc n) = some_below so n || so n

-- some number of the list is not 0
abbrev pub some_wait : List ℕ → Bool
some_wait counts = list_any (λ n. nat_lt 0 n) counts

-- some end leaves a task of the instance of number i waiting
abbrev pub waits : List End → ℕ → Bool
waits ends i = list_any (λ (e : End). nat_lt 0 (slice_index_or e.waiting.items i 0)) ends

-- of these calls, the one of number i
abbrev pub call_at : List Call → ℕ → Call
call_at cs i = slice_index_or cs i (record { tx = record { 0 = 0 }; arguments = [] })

-- one of these calls is of the transaction of number k
abbrev pub has_calls : List Call → ℕ → Bool
has_calls cs k = list_any (λ (c : Call). c.tx.0 == k) cs

-- some end leaves a task of one of these instances waiting that is of the transaction of number k
abbrev pub parks : List Call → List End → ℕ → Bool
parks cs ends k = some_below (λ i. (call_at cs i).tx.0 == k && waits ends i) (length cs)

-- the standing condition of number k, where it is among the broken ones
abbrev pub broke_word : Listing → Kinds → ℕ → List ℕ
broke_word l ks k = only (slice_index_or ks.broke k false) (codes " broke " ++ always_name l (record { 0 = k }))

-- in which ways turns end, other than by a broken condition
abbrev pub flag_words : Kinds → List ℕ
flag_words ks =
    only ks.returned (codes " returned") ++ (only ks.threw (codes " threw") ++ (only ks.overflow (codes " overflow")
    ++ (only ks.zerodiv (codes " zerodiv") ++ only ks.outside (codes " outside"))))

-- tx NAME, in which ways its turns end, and whether it waits at an end
abbrev pub tx_line : Listing → ℕ → Bool → Option Kinds → List ℕ
tx_line l k waits None = []
tx_line l k waits (Some ks) = codes "tx " ++ (transaction_name l k ++ (flag_words ks ++ (each_below (broke_word l ks) (length l.always) ++ (only waits (codes " parks") ++ codes "\n"))))

-- the line of the transaction of number k, where one of these instances is of it
abbrev pub tx_part : Listing → List Call → Found → ℕ → List ℕ
tx_part l cs f k = only (has_calls cs k) (tx_line l k (parks cs f.ends.items k) (slice_get f.kinds.items k))

-- of a cell that has its initial value nothing is told
abbrev pub is_told : Listing → List ℤ → ℕ → Bool
is_told l values k =
    nat_lt k (length l.names) || not (int_eq (slice_index_or values k (pos 0)) (slice_index_or l.initial k (pos 0)))

-- a variable or a cell, and its value
abbrev pub value_words : Listing → List ℤ → ℕ → List ℕ
value_words l values k =
    only (is_told l values k) (codes " " ++ (value_name l k ++ (codes " " ++ signed_decimal (slice_index_or values k (pos 0)))))

-- the arguments of a call, each behind a space
abbrev pub argument_words : List ℤ → List ℕ
argument_words given = flat_map (λ v. 32 ∷ signed_decimal v) given

-- so many tasks of a call, as a run has them: the transaction, how many, and the arguments
abbrev pub run_words : Listing → Call → ℕ → List ℕ
run_words l c n = transaction_name l c.tx.0 ++ (codes " " ++ (decimal n ++ argument_words c.arguments))

-- how many tasks of the instance of number i wait, where one does
abbrev pub waiting_words : Listing → List Call → List ℕ → ℕ → List ℕ
waiting_words l cs counts i = only (nat_lt 0 (slice_index_or counts i 0)) (codes " " ++ run_words l (call_at cs i) (slice_index_or counts i 0))

-- parked, and those that wait
abbrev pub parked_words : Listing → List Call → List ℕ → List ℕ
parked_words l cs counts = only (some_wait counts) (codes " parked" ++ each_below (waiting_words l cs counts) (length counts))

-- the line of an end: its number, the values, and what waits
abbrev pub end_line : Listing → List Call → ℕ → Option End → List ℕ
end_line l cs k None = []
end_line l cs k (Some e) = decimal (k + 1) ++ (each_below (value_words l e.values.items) (length e.values.items) ++ (parked_words l cs e.waiting.items ++ codes "\n"))

abbrev pub found_text : Listing → Found → List ℕ
found_text l f =
    let cs = instances l in
    line (codes "states" ∷ decimal f.states ∷ [])
    ++ (each_below (tx_part l cs f) (length l.transactions)
    ++ (line (codes "ends" ∷ decimal (length f.ends.items) ∷ [])
    ++ (each_below (λ k. end_line l cs k (slice_get f.ends.items k)) (length f.ends.items)
    ++ codes "end\n")))

-- where more configurations are reached than were asked for
abbrev pub more_text : ℕ → List ℕ
more_text limit = codes "more than " ++ (decimal limit ++ codes " states\n")
