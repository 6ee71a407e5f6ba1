mod Judging
mod Writing
