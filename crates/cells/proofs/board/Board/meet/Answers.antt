use Rattle.std.proofs.Common.{◌≡◌, None, sym, ap, ◌∙◌, arith}
use Rattle.txn_words.specs.Words.{Commit}
use Rattle.txn_words.specs.Loads.{PassRecord, met}
use Rattle.cells.specs.Sight.{Sight, publishing, reading, meeting, commit_of, record_of}
use Rattle.cells.specs.Cells.{CellsId}
use Rattle.cells.proofs.Meeting.{leaves, takes_in, meets_kept, parts}
use Rattle.cells.proofs.board.Board.meet.Goals as goal

pub split_seat-record-requires : goal.split_seat-record-requires
split_seat-record-requires c =
    let x0 : PassRecord = record_of c.args.reader.now.me.0 in let isx : c.args.reader.now.me.0 ≡ reading x0 = c.requires.reader in
    let c0 : Commit = commit_of c.args.publisher.now.me.0 in let isc : c.args.publisher.now.me.0 ≡ publishing c0 = c.requires.publisher in
    let place = sym (ap (λ (z : CellsId). z.table) c.self.view_is) in let own_table = c.requires.own.0 ∙ place in let reader_table = c.requires.own.1 ∙ place in let wide = c.self.invariant.0 in
    (reader_table, omega arith, leaves _ x0 _ isx)

pub join_seat-requires : goal.join_seat-requires
join_seat-requires c =
    let x0 : PassRecord = record_of c.args.reader.now.me.0 in let isx : c.args.reader.now.me.0 ≡ reading x0 = c.requires.reader in
    let c0 : Commit = commit_of c.args.publisher.now.me.0 in let isc : c.args.publisher.now.me.0 ≡ publishing c0 = c.requires.publisher in
    let place = sym (ap (λ (z : CellsId). z.table) c.self.view_is) in let own_table = c.requires.own.0 ∙ place in let reader_table = c.requires.own.1 ∙ place in let wide = c.self.invariant.0 in
    let cut = c.split_seat-record.ensures in let isn : c.split_seat-record.result.me.0 ≡ reading x0 = ap (λ m. m.0) cut.4 ∙ isx in
    (own_table, cut.3 ∙ reader_table, ap (λ m. m.1) cut.4, omega arith, takes_in _ _ _ _ c0 x0 isc isn)

pub load-requires : goal.load-requires
load-requires c =
    let x0 : PassRecord = record_of c.args.reader.now.me.0 in let isx : c.args.reader.now.me.0 ≡ reading x0 = c.requires.reader in
    let c0 : Commit = commit_of c.args.publisher.now.me.0 in let isc : c.args.publisher.now.me.0 ≡ publishing c0 = c.requires.publisher in
    let place = sym (ap (λ (z : CellsId). z.table) c.self.view_is) in let own_table = c.requires.own.0 ∙ place in let reader_table = c.requires.own.1 ∙ place in let wide = c.self.invariant.0 in
    let cut = c.split_seat-record.ensures in let isn : c.split_seat-record.result.me.0 ≡ reading x0 = ap (λ m. m.0) cut.4 ∙ isx in
    let glue = c.join_seat.ensures in let isj : c.join_seat.new.seat.me.0 ≡ meeting c0 x0 = ap (λ m. m.0) glue.2 ∙ λ i. record { publisher = (isc i).publisher; reader = (isn i).reader } in
    (glue.0 ∙ own_table, omega arith, meets_kept _ _ _ c0 x0 isj)

pub split_seat-requires : goal.split_seat-requires
split_seat-requires c =
    let x0 : PassRecord = record_of c.args.reader.now.me.0 in let isx : c.args.reader.now.me.0 ≡ reading x0 = c.requires.reader in
    let c0 : Commit = commit_of c.args.publisher.now.me.0 in let isc : c.args.publisher.now.me.0 ≡ publishing c0 = c.requires.publisher in
    let place = sym (ap (λ (z : CellsId). z.table) c.self.view_is) in let own_table = c.requires.own.0 ∙ place in let reader_table = c.requires.own.1 ∙ place in let wide = c.self.invariant.0 in
    let cut = c.split_seat-record.ensures in let isn : c.split_seat-record.result.me.0 ≡ reading x0 = ap (λ m. m.0) cut.4 ∙ isx in
    let glue = c.join_seat.ensures in let isj : c.join_seat.new.seat.me.0 ≡ meeting c0 x0 = ap (λ m. m.0) glue.2 ∙ λ i. record { publisher = (isc i).publisher; reader = (isn i).reader } in
    let told = c.load.ensures.2 c0 x0 isj in let isl : c.load.new.seat.me.0 ≡ meeting c0 (met c0.history x0) = told.0 in
    (c.load.ensures.0 ∙ (glue.0 ∙ own_table), omega arith, parts _ c0 (met c0.history x0) _ isl)

pub returns-clause-publisher : goal.returns-clause-publisher
returns-clause-publisher c =
    let x0 : PassRecord = record_of c.args.reader.now.me.0 in let isx : c.args.reader.now.me.0 ≡ reading x0 = c.requires.reader in
    let c0 : Commit = commit_of c.args.publisher.now.me.0 in let isc : c.args.publisher.now.me.0 ≡ publishing c0 = c.requires.publisher in
    let place = sym (ap (λ (z : CellsId). z.table) c.self.view_is) in let own_table = c.requires.own.0 ∙ place in let reader_table = c.requires.own.1 ∙ place in let wide = c.self.invariant.0 in
    let cut = c.split_seat-record.ensures in let isn : c.split_seat-record.result.me.0 ≡ reading x0 = ap (λ m. m.0) cut.4 ∙ isx in
    let glue = c.join_seat.ensures in let isj : c.join_seat.new.seat.me.0 ≡ meeting c0 x0 = ap (λ m. m.0) glue.2 ∙ λ i. record { publisher = (isc i).publisher; reader = (isn i).reader } in
    let told = c.load.ensures.2 c0 x0 isj in let isl : c.load.new.seat.me.0 ≡ meeting c0 (met c0.history x0) = told.0 in
    let apart = c.split_seat.ensures in
    ((apart.0 ∙ (c.load.ensures.0 ∙ glue.0), apart.1 ∙ (c.load.ensures.1 ∙ glue.1)), ap (λ m. m.0) apart.2 ∙ (ap (λ (d : Sight). record d { reader = None }) isl ∙ sym isc))

pub returns-clause-reader : goal.returns-clause-reader
returns-clause-reader c =
    let x0 : PassRecord = record_of c.args.reader.now.me.0 in let isx : c.args.reader.now.me.0 ≡ reading x0 = c.requires.reader in
    let c0 : Commit = commit_of c.args.publisher.now.me.0 in let isc : c.args.publisher.now.me.0 ≡ publishing c0 = c.requires.publisher in
    let place = sym (ap (λ (z : CellsId). z.table) c.self.view_is) in let own_table = c.requires.own.0 ∙ place in let reader_table = c.requires.own.1 ∙ place in let wide = c.self.invariant.0 in
    let cut = c.split_seat-record.ensures in let isn : c.split_seat-record.result.me.0 ≡ reading x0 = ap (λ m. m.0) cut.4 ∙ isx in
    let glue = c.join_seat.ensures in let isj : c.join_seat.new.seat.me.0 ≡ meeting c0 x0 = ap (λ m. m.0) glue.2 ∙ λ i. record { publisher = (isc i).publisher; reader = (isn i).reader } in
    let told = c.load.ensures.2 c0 x0 isj in let isl : c.load.new.seat.me.0 ≡ meeting c0 (met c0.history x0) = told.0 in
    let apart = c.split_seat.ensures in
    (apart.3 ∙ (c.load.ensures.0 ∙ glue.0), ap (λ m. m.0) apart.4 ∙ ap (λ (d : Sight). record d { publisher = None }) isl, told.1, told.2)
