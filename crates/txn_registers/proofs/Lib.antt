mod Bodies
mod Frames
mod Going
mod Judged
mod Parts
mod Places
mod Runs
mod Tests
