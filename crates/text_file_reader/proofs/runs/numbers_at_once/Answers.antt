use Rattle.std.proofs.Common.{◌≡◌, ◌<◌, ◌≤◌, false, length, take, w64, arith}
use mir.Val.{to_z, of_z}
use Rattle.std.proofs.lemmas.Int.{to_z-of_z}
use Rattle.std.proofs.lemmas.List.{take_more_set, length-set, length-take}
use Rattle.text_words.specs.Bytes.{int_value}
use Rattle.text_words.specs.Tokens.{tokens}
use Rattle.text_words.specs.TokenReading.{is_int, int_at, all_of}
use Rattle.text_words.specs.Numbers.{number_of}
use Rattle.text_grammar.proofs.Lists.{int_shortens, is_int_next, no_int_next}
use Rattle.text_file_reader.proofs.AtOnce.{none_made, one_made, all_made, all_given}
use Rattle.text_file_reader.proofs.runs.numbers_at_once.Goals as goal

pub numbers-init : goal.numbers-init
numbers-init c = record { so_far = none_made is_int int_at number_of (tokens c.args.bytes.now); room = omega arith; few = omega arith; within = omega arith }

pub numbers-preserved : goal.numbers-preserved
numbers-preserved c =
    let numeral = c.in-Ok.numeral in
    let v = c.in_ok-values.field-0 in
    let i = c.numbers.count in
    let values = c.numbers.values in
    let ts = tokens c.numbers.rest.now in
    let after = tokens c.in-Ok.after.now in
    let same : to_z w64 (of_z w64 v) ≡ v = grind (arith, to_z-of_z) in
    let other = c.if-count-eq-MAX_PARAMETERS.false in
    let room : i < length values = omega (arith, c.numbers.invariant.room, c.numbers.invariant.few, other) in
    let value = int_value numeral.text.now in
    record {
      so_far = rw (same, take_more_set values i v room) (one_made is_int int_at number_of int_shortens (all_of is_int int_at (tokens c.args.bytes.now)) (take i values) ts after v c.numbers.invariant.so_far
          (is_int_next ts (value, after) c.in-Ok.ensures.value) (record { item = value; is_read = c.in-Ok.ensures.value; is_made = c.in_ok-values.ensures.value }));
      room = rw (length-set values i _) c.numbers.invariant.room;
      few = omega (arith, c.numbers.invariant.few, other);
      within = let shorter = c.in-Ok.ensures.shorter in let within = c.numbers.invariant.within in omega arith;
    }

pub returns-clause-value : goal.returns-clause-value
returns-clause-value c =
    let ts = tokens c.numbers.rest.now in
    let made = take c.numbers.count c.numbers.values in
    let total = all_of is_int int_at (tokens c.args.bytes.now) in
    let stop : is_int ts ≡ false = no_int_next ts c.in_default.field-0 c.in_default.ensures.kind c.in_default.ensures.value in
    let few : length made ≤ 8 = omega (arith, c.numbers.invariant.few, length-take c.numbers.count c.numbers.values) in
    rw c.of.ensures (all_given total made ts few (all_made is_int int_at number_of total made ts c.numbers.invariant.so_far stop))
