mod Lowest
mod Payloads
mod Told
