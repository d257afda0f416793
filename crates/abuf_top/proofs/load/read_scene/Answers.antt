use Rattle.std.proofs.Common.{◌≡◌, ◌≤◌, ◌+◌, inr, false, nat_lt, length}
use Rattle.std.proofs.lemmas.Bool.{le-ltb}
use Rattle.abuf_num.specs.declared.limits.TheConstants.{MAX_BYTES}
use Rattle.abuf_io.specs.Causes.{Rose}
use Rattle.abuf_obj.specs.Scene.{obj_fault}
use Rattle.abuf_top.specs.Fetches.{CallsAtMost, scene_fetches}
use Rattle.abuf_top.specs.Outside.{SourceChange, ShelfChange, source_change, shelf_change, ReadFailed, told}
use Rattle.abuf_top.specs.Prepared.{Loads}
use Rattle.abuf_top.specs.Verdict.{fault_verdict, scene_of, scene_verdict}
use Rattle.abuf_top.proofs.Taking.{takes}
use Rattle.abuf_top.proofs.Telling.{told-weaker, cause-weaker, read_told, most_told}
use Rattle.abuf_top.proofs.load.read_scene.Goals as goal

pub returns : goal.returns
returns g c =
    let bytes = c.in_ok-bytes.bytes in
    let from : SourceChange = source_change g.S.Source.left g.S.Source.faults c.args.scene.now c.read_all.new.src in
    let by : ShelfChange = shelf_change g.H.Shelf.tells g.H.Shelf.holds g.H.Shelf.calls g.H.Shelf.faults c.args.shelf.now c.read_bytes.new.shelf in
    let rose : Type 0 = Rose by.faults_old by.faults_new in
    let read = c.in_ok-bytes.ensures in
    let short : nat_lt MAX_BYTES (length bytes) ≡ false = le-ltb MAX_BYTES (length bytes) read.within in
    record {
      as_told = read_told (scene_verdict (told by)) (λ v. Loads v (ReadFailed from by) c.read_bytes.result) from.left_old from.left_new bytes read.whole read.end
          (rw short (told-weaker (fault_verdict (scene_of bytes) (told by) (obj_fault bytes)) rose (ReadFailed from by) c.read_bytes.result (λ e. inr e) c.read_bytes.ensures.told));
      cause = cause-weaker rose (ReadFailed from by) c.read_bytes.result (λ e. inr e) c.read_bytes.ensures.cause;
      scene = c.read_bytes.ensures.scene;
      calls = record {
        source = λ none. absurd none;
        taken = takes MAX_BYTES _ _ c.read_all.result c.read_all.ensures.taken;
        calls = read_told (scene_fetches (told by)) (CallsAtMost by.calls_old by.calls_new by.faults_old by.faults_new) from.left_old from.left_new bytes read.whole read.end (rw short c.read_bytes.ensures.calls);
        most = most_told (λ n. by.calls_new ≤ by.calls_old + n) from.left_old from.left_new bytes read.whole read.end c.read_bytes.ensures.most;
      };
    }
