use Rattle.std.proofs.Common.{◌∙◌}
use Rattle.top_call.proofs.Steps.{next_fetch, reads_more, stops, asks_next, asks_stop, reads_pushed, fits_at, place_is, inside_texts, small_at, at_count}
use Rattle.top_call.proofs.fetching.fetch_all.Goals as goal

pub returns-in-Err-clause-stopped : goal.returns-in-Err-clause-stopped
returns-in-Err-clause-stopped g c =
    let e = c.fetch.ensures in
    let placed = c.len-place.ensures ∙ c.loop-name.files.ok.0 in
    let fetch = next_fetch _ _ _ _ _ _ _ _ _ _ _ _ c.loop-name.invariant.count c.loop-name-test.true c.name-item.is c.as_str.ensures.value
    placed c.limit.ensures.value c.in-Err.is (record {
      whole = e.whole;
      too_long = e.too_long;
      failed = e.failed;
      asked = e.asked;
      only_reads = record { files = e.files; out = e.out; err = e.err; write_faults = e.write_faults; lost = e.lost; read_faults = e.never_falls };
    }) in
    let inside = inside_texts _ _ _ c.loop-name.invariant.count c.loop-name-test.true in
    rw (place_is _ _ placed) (stops _ _ _ _ _ _ _ (at_count _ _ _ _ _ _ c.loop-name.invariant) inside fetch)

pub returns-in-Err-clause-asked : goal.returns-in-Err-clause-asked
returns-in-Err-clause-asked g c =
    let e = c.fetch.ensures in
    let placed = c.len-place.ensures ∙ c.loop-name.files.ok.0 in
    let fetch = next_fetch _ _ _ _ _ _ _ _ _ _ _ _ c.loop-name.invariant.count c.loop-name-test.true c.name-item.is c.as_str.ensures.value
    placed c.limit.ensures.value c.in-Err.is (record {
      whole = e.whole;
      too_long = e.too_long;
      failed = e.failed;
      asked = e.asked;
      only_reads = record { files = e.files; out = e.out; err = e.err; write_faults = e.write_faults; lost = e.lost; read_faults = e.never_falls };
    }) in
    let inside = inside_texts _ _ _ c.loop-name.invariant.count c.loop-name-test.true in
    asks_stop _ _ _ _ _ _ _ (at_count _ _ _ _ _ _ c.loop-name.invariant) inside fetch.asked

pub returns-in-Err-push-clause-asked : goal.returns-in-Err-push-clause-asked
returns-in-Err-push-clause-asked g c =
    let e = c.fetch.ensures in
    let placed = c.len-place.ensures ∙ c.loop-name.files.ok.0 in
    let fetch = next_fetch _ _ _ _ _ _ _ _ _ _ _ _ c.loop-name.invariant.count c.loop-name-test.true c.name-item.is c.as_str.ensures.value
    placed c.limit.ensures.value c.in-Ok.is (record {
      whole = e.whole;
      too_long = e.too_long;
      failed = e.failed;
      asked = e.asked;
      only_reads = record { files = e.files; out = e.out; err = e.err; write_faults = e.write_faults; lost = e.lost; read_faults = e.never_falls };
    }) in
    let inside = inside_texts _ _ _ c.loop-name.invariant.count c.loop-name-test.true in
    asks_next _ _ _ _ _ _ (at_count _ _ _ _ _ _ c.loop-name.invariant) inside fetch.asked

pub loop-name-preserved : goal.loop-name-preserved
loop-name-preserved g c =
    let e = c.fetch.ensures in
    let placed = c.len-place.ensures ∙ c.loop-name.files.ok.0 in
    let fetch = next_fetch _ _ _ _ _ _ _ _ _ _ _ _ c.loop-name.invariant.count c.loop-name-test.true c.name-item.is c.as_str.ensures.value
    placed c.limit.ensures.value c.in-Ok.is (record {
      whole = e.whole;
      too_long = e.too_long;
      failed = e.failed;
      asked = e.asked;
      only_reads = record { files = e.files; out = e.out; err = e.err; write_faults = e.write_faults; lost = e.lost; read_faults = e.never_falls };
    }) in
    let inside = inside_texts _ _ _ c.loop-name.invariant.count c.loop-name-test.true in
    reads_pushed _ _ _ _ _ _ _ _ c.in-Ok-push.ensures.items c.loop-name.invariant.count
    (reads_more _ _ _ _ _ _ _ (at_count _ _ _ _ _ _ c.loop-name.invariant) inside
    (fits_at _ _ _ _ _ placed c.limit.ensures.value c.in-Ok.ensures.within) (small_at _ _ _ _ placed c.limit.ensures.value c.limit.ensures.small) fetch)
