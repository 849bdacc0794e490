use Rattle.std.proofs.Common.{◌≡◌, ◌<◌, ◌≤◌, ◌∙◌, ◌+◌, ◌++◌, ℕ, ℤ, zero, suc, List, [], ◌∷◌, Global, String, add-one, ap, arith, drop, drop-cons, get_or, length, length-drop, map, refl, string_bytes, subst, sum_by, sym, take}
use Rattle.std.proofs.lemmas.List.Sums.{sum_by-cons}
use Rattle.txn_declarations.specs.Counted.{counted}
use Rattle.txn.proofs.Tabled.{counted_cells}
use Rattle.txn_programs.proofs.Lawful.{limits_parts}
use Rattle.text_report_printer.specs.ReportText.{cell_lines, table_lines}
use Rattle.text_report_printer.proofs.Lengths.{table_name_short}
use Rattle.runner.specs.Pieces.{Breaks}
use Rattle.runner.proofs.Gathering.{on_err, puts_break, puts_more, puts_none}
use Rattle.runner.proofs.pieces.put_tables.Goals as goal

-- the lines of the table at a place, and those of the tables behind it
table_split : (tables : List (String Global × ℕ)) (i : ℕ) (t : String Global × ℕ) (rest : List (ℤ × ℕ)) (name : List ℕ) (cells more : List (ℤ × ℕ)) → i < length tables → t ≡ get_or tables i t → name ≡ string_bytes t.0 → cells ≡ take t.1 rest → more ≡ drop t.1 rest
    → table_lines (map counted (drop i tables)) rest ≡ cell_lines name 0 cells ++ table_lines (map counted (drop (i + 1) tables)) more
table_split tables i t rest name cells more lt at named here behind = rw (named, here, behind, add-one) (from tables i lt at)
  where
    from : (ts : List (String Global × ℕ)) (k : ℕ) → k < length ts → t ≡ get_or ts k t → table_lines (map counted (drop k ts)) rest ≡ cell_lines (string_bytes t.0) 0 (take t.1 rest) ++ table_lines (map counted (drop (suc k) ts)) (drop t.1 rest)
    from [] k h e = absurd (omega arith)
    from (u ∷ ts) zero h e =
        let lines : String Global × ℕ → List ℕ = λ x. cell_lines (string_bytes x.0) 0 (take x.1 rest) ++ table_lines (map counted ts) (drop x.1 rest) in
        ap lines (sym e)
    from (u ∷ ts) (suc k) h e = from ts k (omega arith) e

-- as many cells as those tables have are left
cells_left : (tables : List (String Global × ℕ)) (i : ℕ) (t : String Global × ℕ) (rest more : List (ℤ × ℕ)) → i < length tables → t ≡ get_or tables i t → sum_by (λ u. u.1) (drop i tables) ≡ length rest → more ≡ drop t.1 rest → sum_by (λ u. u.1) (drop (i + 1) tables) ≡ length more
cells_left tables i t rest more lt at left behind =
    let count : String Global × ℕ → ℕ = λ u. u.1 in
    let first : sum_by count (drop i tables) ≡ t.1 + sum_by count (drop (suc i) tables) =
    ap (sum_by count) (drop-cons tables i t lt) ∙ sum_by-cons count (get_or tables i t) (drop (suc i) tables) ∙ ap (λ (n : ℕ). n + sum_by count (drop (suc i) tables)) (ap count (sym at)) in
    rw (behind, add-one) (omega (arith, first, left, length-drop t.1 rest))

fewer : (n : ℕ) (rest more : List (ℤ × ℕ)) → length rest ≤ 1048576 → more ≡ drop n rest → length more ≤ 1048576
fewer n rest more few behind = omega (arith, few, ap length behind, length-drop n rest)

pub loop-name-init : goal.loop-name-init
loop-name-init g c =
    let l = c.args.catalogue.now in
    record {
      puts = puts_none _ _ _;
      left = sym (counted_cells c.tables-tables.result.now) ∙ ap (λ ts. sum_by (λ (t : List ℕ × ℕ). t.1) ts) c.tables-tables.ensures ∙ sym c.requires.each;
      few = omega (arith, (limits_parts l c.rules.ensures.limits).cells, c.requires.each);
      none_failed = refl;
      capacity = omega arith;
    }

pub put_table-requires-clause-short : goal.put_table-requires-clause-short
put_table-requires-clause-short g c =
    let tables = c.tables-tables.result.now in
    subst (λ (name : List ℕ). length name ≤ 32) (sym (c.as_str.ensures.value ∙ ap (λ (t : String Global × ℕ). string_bytes t.0) c.loop-name-item.is))
    (table_name_short c.args.catalogue.now c.rules.ensures.limits tables c.loop-name.name-index c.loop-name-item.result c.tables-tables.ensures c.loop-name-test.true)

pub returns-in_err-put_table-clause-breaks : goal.returns-in_err-put_table-clause-breaks
returns-in_err-put_table-clause-breaks g c =
    let tables = c.tables-tables.result.now in
    let lines = table_split tables c.loop-name.name-index c.loop-name-item.result c.loop-name.rest.now c.as_str.result.now _ _ c.loop-name-test.true c.loop-name-item.is c.as_str.ensures.value c.split_at.ensures.front c.split_at.ensures.back in
    let broke = puts_break _ _ _ _ _ _ _ _ _ c.loop-name.invariant.puts c.in_err-put_table.ensures.breaks lines in
    on_err _ (subst (λ (ts : List (List ℕ × ℕ)). Breaks (g.S.Sink.bytes c.args.sink.now) (string_bytes c.args.text.now) (g.S.Sink.bytes c.put_table.new.sink) (table_lines ts c.args.vars.now)) c.tables-tables.ensures broke)

pub loop-name-preserved : goal.loop-name-preserved
loop-name-preserved g c =
    let tables = c.tables-tables.result.now in
    let before = c.loop-name.invariant in
    let i = c.loop-name.name-index in
    let t = c.loop-name-item.result in
    let rest = c.loop-name.rest.now in
    record {
      puts = puts_more _ _ _ _ _ _ (table_lines (map counted tables) c.args.vars.now) (table_lines (map counted (drop i tables)) rest) _ _ before.puts c.in_ok-put_table.ensures.gathers
          (table_split tables i t rest c.as_str.result.now _ _ c.loop-name-test.true c.loop-name-item.is c.as_str.ensures.value c.split_at.ensures.front c.split_at.ensures.back);
      left = cells_left tables i t rest _ c.loop-name-test.true c.loop-name-item.is before.left c.split_at.ensures.back;
      few = fewer t.1 rest _ before.few c.split_at.ensures.back;
      none_failed = c.in_ok-put_table.ensures.none_failed ∙ before.none_failed;
      capacity = omega (arith, before.capacity, c.put_table.ensures.capacity);
    }
